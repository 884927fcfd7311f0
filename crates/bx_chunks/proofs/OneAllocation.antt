-- An allocation has one answer.
use Rattle.std.proofs.Common.{◌≡◌, ℕ, ◌<◌, ◌⊎◌, inl, inr, true, false, List, Some, None, Result, Ok, Err, refl, sym, ap, subst, ◌∙◌}
use Rattle.std.specs.Prelude.{slice_index, unwrap_or}
use Rattle.bx_base.specs.declared.names.Mode.{Mode}
use Rattle.bx_base.specs.declared.names.Mode.TheVariants.{Shared, Exclusive}
use Rattle.bx_layout.specs.declared.area.AreaBlock.{AreaBlock}
use Rattle.bx_layout.specs.declared.block.Block.{Block}
use Rattle.bx_layout.specs.Areas.{IsLowestFree, is_free}
use Rattle.bx_records.specs.Drafts.{Changed, block_in}
use Rattle.bx_truth.specs.Chunks.{own_block}
use Rattle.bx_truth.specs.bx_views.specs.Truths.{Held}
use Rattle.bx_chunks.specs.Allocating.{AllocatesAt, IsFullVolume, IsNext, LacksNext, PassesFull, TakesAt, TakesNext}
use Rattle.bx_chunks.specs.Areas.{HasFree, IsFull, area_in_turn, seen_in}
use Rattle.bx_chunks.specs.Counting.{HoldsFree}
use Rattle.bx_chunks.specs.Memory.{HasMemory}
use Rattle.bx_chunks.specs.declared.error.ChunkError.{ChunkError}
use Rattle.bx_chunks.specs.declared.error.ChunkError.TheVariants.{Need, Stale, Full, OutOfMemory, Crowded}
use Rattle.bx_chunks.proofs.OneCount.{free_same, in_order, slots_same, sums_same}
use Rattle.bx_chunks.proofs.OneTake.{one_take}
use Rattle.bx_chunks.proofs.Options.{none_some, some_same, some_there}

-- ---- the area in turn

seen_missing : (held : Held) (draft : List Changed) (at : ℕ) (block : Block) → seen_in held draft at Shared ≡ Some block → held at Shared ≡ None → ⊥
seen_missing held draft at block seen none =
    let h = some_there (unwrap_or (block_in draft at)) (held at Shared) block seen in
    none_some (held at Shared) h.0 none h.1

full_or_free : (held : Held) (draft : List Changed) (area : ℕ) (slots : AreaBlock) (slot : ℕ) → IsFull held draft area → HasFree held draft area slots slot → ⊥
full_or_free held draft area slots slot full free =
    let same = some_same (seen_in held draft (own_block area) Shared) free.block full.block free.there full.there in
    let none : is_free (slice_index slots.words slot) ≡ false = full.none slots (record { handle = ap (λ (b : Block). b.handle) (sym same) ∙ free.has.handle; kind = ap (λ (b : Block). b.kind) (sym same) ∙ free.has.kind; spells = rw (← same) free.has.spells }) slot free.lowest.there in
    let e : true ≡ false = sym free.lowest.free ∙ none in absurd cc

lowest_same : (slots : AreaBlock) (m n : ℕ) → IsLowestFree slots m → IsLowestFree slots n → m ≡ n
lowest_same slots m n a b = by (in_order m n)
  where
    no : (k : ℕ) → is_free (slice_index slots.words k) ≡ true → is_free (slice_index slots.words k) ≡ false → ⊥
    no k free none = let e : true ≡ false = sym free ∙ none in absurd cc

    by : (m < n) ⊎ ((n < m) ⊎ (m ≡ n)) → m ≡ n
    by (inl less) = absurd (no m a.free (b.lowest m less))
    by (inr (inl less)) = absurd (no n b.free (a.lowest n less))
    by (inr (inr same)) = same

-- what ends the way along the areas: one that has a free slot, or isn't held
abbrev Stops : Held → List Changed → ℕ → Type 0
Stops held draft area = (held (own_block area) Shared ≡ None) ⊎ ((slots : AreaBlock) × (slot : ℕ) × HasFree held draft area slots slot)

full_or_stops : (held : Held) (draft : List Changed) (area : ℕ) → IsFull held draft area → Stops held draft area → ⊥
full_or_stops held draft area full (inl none) = seen_missing held draft (own_block area) full.block full.there none
full_or_stops held draft area full (inr free) = full_or_free held draft area free.0 free.1 full free.2

turn_same : (held : Held) (draft : List Changed) (near areas t u : ℕ) → PassesFull held draft near areas t → PassesFull held draft near areas u
    → Stops held draft (area_in_turn near areas t) → Stops held draft (area_in_turn near areas u) → t ≡ u
turn_same held draft near areas t u before also stops ends = by (in_order t u)
  where
    by : (t < u) ⊎ ((u < t) ⊎ (t ≡ u)) → t ≡ u
    by (inl less) = absurd (full_or_stops held draft (area_in_turn near areas t) (also t less) stops)
    by (inr (inl less)) = absurd (full_or_stops held draft (area_in_turn near areas u) (before u less) ends)
    by (inr (inr same)) = same

module _ (held : Held) (old : List Changed) (near areas : ℕ) where
  next_stops : (area : ℕ) (slots : AreaBlock) (slot : ℕ) → (n : IsNext held old near areas area slots slot) → Stops held old (area_in_turn near areas n.turn)
  next_stops area slots slot n = inr (slots, slot, subst (λ (a : ℕ). HasFree held old a slots slot) n.area_is n.free)

  one_area_next : (a b : ℕ) (s t : AreaBlock) (m n : ℕ) → IsNext held old near areas a s m → IsNext held old near areas b t n → a ≡ b
  one_area_next a b s t m n x y =
      x.area_is ∙ ap (area_in_turn near areas) (turn_same held old near areas x.turn y.turn x.passes y.passes (next_stops a s m x) (next_stops b t n y)) ∙ sym y.area_is

  next_same : (area : ℕ) (s t : AreaBlock) (m n : ℕ) → HasFree held old area s m → HasFree held old area t n → (s ≡ t) × (m ≡ n)
  next_same area s t m n x y =
      let e = some_same (seen_in held old (own_block area) Shared) x.block y.block x.there y.there in
      let slots = slots_same area x.block y.block s t e x.has y.has in
      (slots, lowest_same t m n (subst (λ (a : AreaBlock). IsLowestFree a m) slots x.lowest) y.lowest)

  takes_same : (new now : List Changed) (r s : Result ℕ ChunkError) → HasMemory r → HasMemory s → TakesNext held old new near areas r → TakesNext held old now near areas s → r ≡ s
  takes_same new now r s x y a b =
      let area = one_area_next a.area b.area a.slots b.slots a.slot b.slot a.next b.next in
      let same = next_same b.area a.slots b.slots a.slot b.slot (subst (λ (n : ℕ). HasFree held old n a.slots a.slot) area a.next.free) b.next.free in
      one_take held old new now b.area b.slots b.slot r s x y
      (subst (λ (n : ℕ). TakesAt held old new b.area b.slots n r) same.1
      (subst (λ (t : AreaBlock). TakesAt held old new b.area t a.slot r) same.0
      (subst (λ (n : ℕ). TakesAt held old new n a.slots a.slot r) area a.takes))) b.takes

  takes_or_lacks : (new : List Changed) (r : Result ℕ ChunkError) (at : ℕ) → TakesNext held old new near areas r → LacksNext held old near areas at → ⊥
  takes_or_lacks new r at a b =
      let same = turn_same held old near areas a.next.turn b.turn a.next.passes b.passes (next_stops a.area a.slots a.slot a.next) (inl b.missing) in
      let free = subst (λ (n : ℕ). HasFree held old n a.slots a.slot) (a.next.area_is ∙ ap (area_in_turn near areas) same) a.next.free in
      seen_missing held old (own_block (area_in_turn near areas b.turn)) free.block free.there b.missing

  takes_or_full : (new : List Changed) (r : Result ℕ ChunkError) (spare : ℕ) → TakesNext held old new near areas r → IsFullVolume held old near areas spare → ⊥
  takes_or_full new r spare a b = full_or_stops held old (area_in_turn near areas a.next.turn) (b.passes a.next.turn a.next.within) (next_stops a.area a.slots a.slot a.next)

  lacks_or_full : (at spare : ℕ) → LacksNext held old near areas at → IsFullVolume held old near areas spare → ⊥
  lacks_or_full at spare a b = full_or_stops held old (area_in_turn near areas a.turn) (b.passes a.turn a.within) (inl a.missing)

  lacks_same : (at other : ℕ) → LacksNext held old near areas at → LacksNext held old near areas other → at ≡ other
  lacks_same at other a b =
      a.at_is ∙ ap (λ (n : ℕ). own_block (area_in_turn near areas n)) (turn_same held old near areas a.turn b.turn a.passes b.passes (inl a.missing) (inl b.missing)) ∙ sym b.at_is

  spare_same : (spare other : ℕ) → IsFullVolume held old near areas spare → IsFullVolume held old near areas other → spare ≡ other
  spare_same spare other a b =
      sums_same (λ turn. HoldsFree held (area_in_turn near areas turn)) (λ turn n m x y. free_same held (area_in_turn near areas turn) n m x y) areas spare other a.spare_is b.spare_is

  -- the three ways in which an allocation ends
  data Ends (new : List Changed) (r : Result ℕ ChunkError) : Type 0 where
    takes : TakesNext held old new near areas r → Ends new r
    lacks : (at : ℕ) → r ≡ Err (Need at Exclusive) → LacksNext held old near areas at → Ends new r
    full : (spare : ℕ) → r ≡ Err (Full spare) → IsFullVolume held old near areas spare → Ends new r

  ends : (new : List Changed) (r : Result ℕ ChunkError) → HasMemory r → AllocatesAt held old new near areas r → Ends new r
  ends new (Ok handle) x a = takes a
  ends new (Err (Need at mode)) x (inl a) = lacks at (ap (λ (m : Mode). Err (Need at m)) a.1) a.0
  ends new (Err (Need at mode)) x (inr a) = takes a
  ends new (Err (Full spare)) x a = full spare refl a
  ends new (Err Crowded) x a = takes a
  ends new (Err OutOfMemory) x a = absurd x
  ends new (Err Stale) x a = absurd a

  one_end : (new now : List Changed) (r s : Result ℕ ChunkError) → HasMemory r → HasMemory s → Ends new r → Ends now s → r ≡ s
  one_end new now r s x y (takes a) (takes b) = takes_same new now r s x y a b
  one_end new now r s x y (takes a) (lacks at e b) = absurd (takes_or_lacks new r at a b)
  one_end new now r s x y (takes a) (full spare e b) = absurd (takes_or_full new r spare a b)
  one_end new now r s x y (lacks at e a) (takes b) = absurd (takes_or_lacks now s at b a)
  one_end new now r s x y (lacks at e a) (lacks other f b) = e ∙ ap (λ (n : ℕ). Err (Need n Exclusive)) (lacks_same at other a b) ∙ sym f
  one_end new now r s x y (lacks at e a) (full spare f b) = absurd (lacks_or_full at spare a b)
  one_end new now r s x y (full spare e a) (takes b) = absurd (takes_or_full now s spare b a)
  one_end new now r s x y (full spare e a) (lacks at f b) = absurd (lacks_or_full at spare b a)
  one_end new now r s x y (full spare e a) (full other f b) = e ∙ ap (λ (n : ℕ). Err (Full n)) (spare_same spare other a b) ∙ sym f

  pub one_allocation : (new now : List Changed) (r s : Result ℕ ChunkError) → HasMemory r → HasMemory s → AllocatesAt held old new near areas r → AllocatesAt held old now near areas s → r ≡ s
  one_allocation new now r s x y a b = one_end new now r s x y (ends new r x a) (ends now s y b)

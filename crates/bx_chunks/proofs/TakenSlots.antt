-- Drafts in which slots are taken: what else may be put, and what the next slot needs.
use Rattle.std.proofs.Common.{◌≡◌, ℕ, ◌+◌, ◌^◌, ◌%◌, ◌<◌, inl, inr, arith, true, List, Option, Some, None, get_or, refl, sym, ap, subst, ◌∙◌}
use Rattle.std.specs.Prelude.{◌≢◌, ◌⊎◌, Ok, Err, option_map, unwrap_or}
use Rattle.std.specs.Option.{option_or}
use Rattle.std.proofs.lemmas.Bool.{cases_eq}
use Rattle.bx_base.specs.declared.names.Mode.{Mode}
use Rattle.bx_base.specs.declared.names.Mode.TheVariants.{Shared, Exclusive}
use Rattle.bx_layout.specs.declared.area.AreaBlock.{AreaBlock}
use Rattle.bx_layout.specs.declared.block.Block.{Block}
use Rattle.bx_places.specs.Places.{is_block}
use Rattle.bx_records.specs.Drafts.{Changed, block_in, with_block}
use Rattle.bx_truth.specs.Chunks.{block_at, own_block}
use Rattle.bx_truth.specs.bx_views.specs.Truths.{Held}
use Rattle.bx_chunks.specs.Allocating.{AllocatesAt, LacksOneOf, first, second, next_handle, slot_block}
use Rattle.bx_chunks.specs.Areas.{area_in_turn, seen_in}
use Rattle.bx_chunks.specs.Taking.{IsNoArea, LeavesSlots, NoSlots, OnSlots, ShowsSlots, TakesSlots, more, none, other}
use Rattle.bx_chunks.specs.declared.error.ChunkError.TheVariants.{Need, Full}
use Rattle.bx_chunks.proofs.Drafts.{put_elsewhere, put_here}
use Rattle.bx_chunks.proofs.FairNeeds.{Shares, fair, own_there, slot_there}
use Rattle.bx_chunks.proofs.Options.{some_same, some_there}
use Rattle.bx_chunks.proofs.Turns.{turn_within}

-- ---- what is seen where a block is put, and elsewhere

seen_here : (held : Held) (xs : List Changed) (at : ℕ) (mode : Mode) (block seen : Block) → seen_in held (with_block xs at block) at mode ≡ Some seen → block ≡ seen
seen_here held xs at mode block seen there =
    let h = some_there (unwrap_or (block_in (with_block xs at block) at)) (held at mode) seen there in
    sym (ap (λ (o : Option Block). unwrap_or o h.0) (put_here xs at block)) ∙ h.2

seen_elsewhere : (held : Held) (xs : List Changed) (at apart : ℕ) (mode : Mode) (block : Block) → apart ≢ at → seen_in held (with_block xs at block) apart mode ≡ seen_in held xs apart mode
seen_elsewhere held xs at apart mode block ne = ap (λ (o : Option Block). option_map (unwrap_or o) (held apart mode)) (put_elsewhere xs at apart block ne)

-- ---- blocks that are no area's own

-- so it is where a block of another kind is put
put_none : (held : Held) (xs : List Changed) (at : ℕ) (block : Block) → block.kind ≢ 4 → IsNoArea held (with_block xs at block) at
put_none held xs at block kind area slots own shows =
    let one = seen_here held xs at Shared block shows.block (subst (λ (n : ℕ). seen_in held (with_block xs at block) n Shared ≡ Some shows.block) own shows.there) in
    kind (ap (λ (b : Block). b.kind) one ∙ shows.has.kind)

-- what is shown elsewhere was shown before
shown_before : (held : Held) (xs : List Changed) (at area : ℕ) (slots : AreaBlock) (block : Block) → own_block area ≢ at → ShowsSlots held (with_block xs at block) area slots → ShowsSlots held xs area slots
shown_before held xs at area slots block apart shows = record { block = shows.block; there = sym (seen_elsewhere held xs at (own_block area) Shared block apart) ∙ shows.there; has = shows.has }

-- and it stays so
pub still_none : (held : Held) (xs : List Changed) (at put : ℕ) (block : Block) → block.kind ≢ 4 → IsNoArea held xs at → IsNoArea held (with_block xs put block) at
still_none held xs at put block kind is area slots own shows = by (cases_eq (own_block area) put)
  where
    by : ((own_block area ≡ put) ⊎ (own_block area ≡ put → ⊥)) → ⊥
    by (inl same) = put_none held xs put block kind area slots same shows
    by (inr apart) = is area slots own (shown_before held xs put area slots block apart shows)

-- such a block in the place of such a one leaves all slots
pub leaves_slots : (held : Held) (xs : List Changed) (at : ℕ) (block : Block) → IsNoArea held xs at → block.kind ≢ 4 → LeavesSlots held xs (with_block xs at block)
leaves_slots held xs at block is kind area slots = (λ shows. ahead shows (cases_eq (own_block area) at), λ shows. back shows (cases_eq (own_block area) at))
  where
    ahead : ShowsSlots held xs area slots → ((own_block area ≡ at) ⊎ (own_block area ≡ at → ⊥)) → ShowsSlots held (with_block xs at block) area slots
    ahead shows (inl same) = absurd (is area slots same shows)
    ahead shows (inr apart) = record { block = shows.block; there = seen_elsewhere held xs at (own_block area) Shared block apart ∙ shows.there; has = shows.has }

    back : ShowsSlots held (with_block xs at block) area slots → ((own_block area ≡ at) ⊎ (own_block area ≡ at → ⊥)) → ShowsSlots held xs area slots
    back shows (inl same) = absurd (put_none held xs at block kind area slots same shows)
    back shows (inr apart) = shown_before held xs at area slots block apart shows

-- what is read is seen
pub read_none : (held : Held) (draft : List Changed) (at : ℕ) (mode : Mode) (block : Block) → Shares held → option_or (block_in draft at) (held at mode) ≡ Some block → block.kind ≢ 4 → IsNoArea held draft at
read_none held draft at mode block shares read kind area slots own shows =
    by (block_in draft at) refl shows.block (subst (λ (n : ℕ). seen_in held draft n Shared ≡ Some shows.block) own shows.there) shows.has.kind
  where
    shared : (m : Mode) → held at m ≡ Some block → held at Shared ≡ Some block
    shared Shared e = e
    shared Exclusive e = shares at block e

    one : (o : Option Block) (seen : Block) → o ≡ Some block → o ≡ Some seen → block ≡ seen
    one o seen e f = some_same o block seen e f

    by : (o : Option Block) → block_in draft at ≡ o → (seen : Block) → seen_in held draft at Shared ≡ Some seen → seen.kind ≡ 4 → ⊥
    by None e seen there four =
        let h = some_there (unwrap_or (block_in draft at)) (held at Shared) seen there in
        let is : held at mode ≡ Some block = sym (ap (λ (o : Option Block). option_or o (held at mode)) e) ∙ read in
        let same : block ≡ h.0 = one (held at Shared) h.0 (shared mode is) h.1 in
        let last : h.0 ≡ seen = sym (ap (λ (o : Option Block). unwrap_or o h.0) e) ∙ h.2 in
        kind (ap (λ (b : Block). b.kind) (same ∙ last) ∙ four)
    by (Some c) e seen there four =
        let h = some_there (unwrap_or (block_in draft at)) (held at Shared) seen there in
        let is : Some c ≡ Some block = sym (ap (λ (o : Option Block). option_or o (held at mode)) e) ∙ read in
        let same : c ≡ block = cc in
        let last : c ≡ seen = sym (ap (λ (o : Option Block). unwrap_or o h.0) e) ∙ h.2 in
        kind (ap (λ (b : Block). b.kind) (sym same ∙ last) ∙ four)

low : (word : ℕ) → word % 2 ^ 31 + 1 < 2 ^ 32
low word = omega arith

new_block : (area : ℕ) (slots : AreaBlock) (slot : ℕ) → slot < 960 → block_at (next_handle area slots slot) ≡ slot_block area slot
new_block area slots slot less = let g = low (get_or slots.words slot 0) in omega (arith, less, g)

not_area : (kind : ℕ) → kind ≡ 3 → kind ≢ 4
not_area kind three four = omega (arith, three, four)

-- an area's own block that is put anew
own_none : (held : Held) (old : List Changed) (apart area : ℕ) (slots : AreaBlock) (block : Block) → ShowsSlots held old area slots → IsNoArea held old apart → IsNoArea held (with_block old (own_block area) block) apart
own_none held old apart area slots block before is another found here shows = by (cases_eq (own_block another) (own_block area))
  where
    by : ((own_block another ≡ own_block area) ⊎ (own_block another ≡ own_block area → ⊥)) → ⊥
    by (inl same) = is area slots (sym same ∙ here) before
    by (inr ne) = is another found here (shown_before held old (own_block area) another found block ne shows)

module _ (held : Held) (old new : List Changed) (near areas handle : ℕ) (at : AllocatesAt held old new near areas (Ok handle)) where
  -- taking a slot changes an area's own block, and one of zeros
  pub taken_none : (apart : ℕ) → IsNoArea held old apart → IsNoArea held new apart
  taken_none apart is =
      let free = at.next.free in
      subst (λ (d : List Changed). IsNoArea held d apart) (sym at.takes.2)
      (still_none held _ apart (slot_block at.area at.slot) _ (not_area _ refl) (own_none held old apart at.area at.slots _ (record { block = free.block; there = free.there; has = free.has }) is))

  -- the block that is taken is none
  pub new_none : IsNoArea held new (block_at handle)
  new_none =
      let place = ap block_at at.takes.1 ∙ new_block at.area at.slots at.slot at.next.free.lowest.there in
      subst (λ (n : ℕ). IsNoArea held new n) (sym place) (subst (λ (d : List Changed). IsNoArea held d (slot_block at.area at.slot)) (sym at.takes.2) (put_none held _ (slot_block at.area at.slot) _ (not_area _ refl)))

-- ---- drafts that go on

-- what is no area's own stays so
pub stays_none : (held : Held) (near areas : ℕ) (from mid : List Changed) (at : ℕ) → TakesSlots held near areas from mid → IsNoArea held from at → IsNoArea held mid at
stays_none held near areas from _ at none is = is
stays_none held near areas from _ at (more old new handle taken takes) is = taken_none held old new near areas handle takes at (stays_none held near areas from old at taken is)
stays_none held near areas from _ at (other old new taken leaves) is = λ area slots own shows. stays_none held near areas from old at taken is area slots own ((leaves area slots).1 shows)

pub puts_other : (held : Held) (near areas : ℕ) (from xs : List Changed) (at : ℕ) (block : Block) → TakesSlots held near areas from xs → IsNoArea held xs at → block.kind ≢ 4 → TakesSlots held near areas from (with_block xs at block)
puts_other held near areas from xs at block taken is kind = other xs (with_block xs at block) taken (leaves_slots held xs at block is kind)

pub goes_on : (held : Held) (near areas : ℕ) (from mid new : List Changed) → TakesSlots held near areas from mid → TakesSlots held near areas mid new → TakesSlots held near areas from new
goes_on held near areas from mid _ before none = before
goes_on held near areas from mid _ before (more old new handle taken at) = more old new handle (goes_on held near areas from mid old before taken) at
goes_on held near areas from mid _ before (other old new taken leaves) = other old new (goes_on held near areas from mid old before taken) leaves

-- what a later draft needs an earlier one does, too
pub later_needs : (held : Held) (near areas : ℕ) (from mid : List Changed) (at : ℕ) (mode : Mode) → TakesSlots held near areas from mid → OnSlots held near areas mid at mode → OnSlots held near areas from at mode
later_needs held near areas from mid at mode before on = record { draft = on.draft; taken = goes_on held near areas from mid on.draft before on.taken; needs = on.needs }

pub later_full : (held : Held) (near areas : ℕ) (from mid : List Changed) (spare : ℕ) → TakesSlots held near areas from mid → NoSlots held near areas mid spare → NoSlots held near areas from spare
later_full held near areas from mid spare before full = record { draft = full.draft; taken = goes_on held near areas from mid full.draft before full.taken; full = full.full }

-- ---- what is needed is a block of the volume, which isn't held

lacks_block : (areas : ℕ) (held : Held) (own at x : ℕ) → is_block areas own ≡ true → is_block areas at ≡ true → LacksOneOf held own at x → is_block areas x ≡ true
lacks_block areas held own at _ is also (first missing) = is
lacks_block areas held own at _ is also (second some missing) = also

needs_block : (areas near : ℕ) (held : Held) (old new : List Changed) (at : ℕ) (mode : Mode) → AllocatesAt held old new near areas (Err (Need at mode)) → is_block areas at ≡ true
needs_block areas near held old new at mode (inl lacks) =
    let l = lacks.0 in
    subst (λ (n : ℕ). is_block areas n ≡ true) (sym l.at_is) (own_there areas (area_in_turn near areas l.turn) (turn_within near areas l.turn l.within))
needs_block areas near held old new at mode (inr takes) =
    let within = subst (λ (n : ℕ). n < areas) (sym takes.next.area_is) (turn_within near areas takes.next.turn takes.next.within) in
    lacks_block areas held (own_block takes.area) (slot_block takes.area takes.slot) at (own_there areas takes.area within) (slot_there areas takes.area takes.slot within takes.next.free.lowest.there) takes.takes.0

pub slots_block : (held : Held) (near areas : ℕ) (from : List Changed) (at : ℕ) (mode : Mode) → OnSlots held near areas from at mode → is_block areas at ≡ true
slots_block held near areas from at mode on = needs_block areas near held on.draft on.draft at mode on.needs

pub slots_unheld : (held : Held) (near areas : ℕ) (from : List Changed) (at : ℕ) (mode : Mode) → Shares held → OnSlots held near areas from at mode → held at mode ≡ None
slots_unheld held near areas from at mode shares on = (fair areas near held on.draft on.draft shares (Err (Need at mode)) on.needs).1

-- What a split needs isn't held, and what it puts are blocks that are held exclusively.
use Rattle.std.proofs.Common.{◌≡◌, ℕ, ◌+◌, ◌^◌, ◌%◌, ◌<◌, List, Option, Some, None, get_or, refl, sym, ap, subst, ◌∙◌, arith, inl, inr}
use Rattle.std.specs.Prelude.{Result, Ok, Err, IsSome, OnOk, ◌⊎◌, ◌≢◌}
use Rattle.std.specs.Option.{option_or}
use Rattle.bx_base.specs.declared.names.Mode.{Mode}
use Rattle.bx_base.specs.declared.names.Mode.TheVariants.{Exclusive}
use Rattle.bx_layout.specs.declared.area.AreaBlock.{AreaBlock}
use Rattle.bx_layout.specs.declared.block.Block.{Block}
use Rattle.bx_records.specs.Drafts.{Changed, block_in}
use Rattle.bx_page.specs.Contents.{Contents}
use Rattle.bx_truth.specs.Chunks.{block_at}
use Rattle.bx_views.specs.Attempts.{IsHeldDraft}
use Rattle.bx_views.specs.Truths.{Held, Hints}
use Rattle.bx_chunks.specs.Allocating.{AllocatesAt, next_handle, slot_block}
use Rattle.bx_chunks.specs.Taking.{NoSlots, OnSlots, more, none}
use Rattle.bx_chunks.proofs.FairNeeds.{Shares}
use Rattle.bx_chunks.proofs.HeldDrafts.{allocates_held}
use Rattle.bx_chunks.proofs.TakenSlots.{slots_unheld}
use Rattle.bx_blink.specs.declared.error.BlinkError.{BlinkError}
use Rattle.bx_blink.specs.declared.error.BlinkError.TheVariants.{Need, Stale, Full, NoRoom, Absent, Present, OutOfMemory, Crowded}
use Rattle.bx_leaves.proofs.Fair.{page_held, seen_held}
use Rattle.bx_splits.specs.declared.halves.Halves.{Halves}
use Rattle.bx_splits.specs.Cutting.{CutsAt, CutsPage, CutsRoot, RaisesAt, SplitsAt, NeedsForSplit}
use Rattle.bx_splits.specs.Halves.{HalvesAt}

none_left : (o held : Option Block) → option_or o held ≡ None → held ≡ None
none_left None held e = e
none_left (Some block) held e = absurd cc

-- what the halves of a page need is what the next slot needs
pub halves_need : (areas near : ℕ) (held : Held) (old new : List Changed) (root handle : ℕ) (page : Contents) (at : ℕ) (mode : Mode) → HalvesAt held old new root handle page near areas (Err (Need at mode)) → OnSlots held near areas old at mode
halves_need areas near held old new root handle page at mode h = elim h [
  | inl r ↦ elim r.1 [ inl a ↦ record { draft = old; taken = none; needs = a } | inr t ↦ record { draft = t.1; taken = more old t.1 t.0 none t.2; needs = t.3 } ]
  | inr r ↦ record { draft = old; taken = none; needs = r.1 }
]

-- and they are full where it isn't there
pub halves_full : (areas near : ℕ) (held : Held) (old new : List Changed) (root handle : ℕ) (page : Contents) (spare : ℕ) → HalvesAt held old new root handle page near areas (Err (Full spare)) → NoSlots held near areas old spare
halves_full areas near held old new root handle page spare h = elim h [
  | inl r ↦ elim r.1 [ inl a ↦ record { draft = old; taken = none; full = a } | inr t ↦ record { draft = t.1; taken = more old t.1 t.0 none t.2; full = t.3 } ]
  | inr r ↦ record { draft = old; taken = none; full = r.1 }
]

pub split_fair : (areas near : ℕ) (held : Held) (hints : Hints) (old new : List Changed) (root handle : ℕ) → Shares held → (result : Result Unit BlinkError)
    → SplitsAt held hints old new root handle near areas result → NeedsForSplit held near areas old handle result
split_fair areas near held hints old new root handle shares (Err (Need at mode)) s = elim s [
  | inl o ↦ subst (λ (m : Mode). (held at m ≡ None) × (((at ≡ block_at handle) × (m ≡ Exclusive)) ⊎ OnSlots held near areas old at m)) (sym o.1)
      (subst (λ (a : ℕ). held a Exclusive ≡ None) (sym o.0) (none_left (block_in old (block_at handle)) (held (block_at handle) Exclusive) o.2), inl (o.0, refl))
  | inr c ↦ (let n = halves_need areas near held old old root handle c.page at mode c.cuts in (slots_unheld held near areas old at mode shares n, inr n))
]
split_fair areas near held hints old new root handle shares (Err Stale) s = tt
split_fair areas near held hints old new root handle shares (Err (Full spare)) s = elim s [
  | inl o ↦ absurd o
  | inr c ↦ halves_full areas near held old old root handle c.page spare c.cuts
]
split_fair areas near held hints old new root handle shares (Err (NoRoom leaf)) s = tt
split_fair areas near held hints old new root handle shares (Err Absent) s = tt
split_fair areas near held hints old new root handle shares (Err Present) s = tt
split_fair areas near held hints old new root handle shares (Err OutOfMemory) s = tt
split_fair areas near held hints old new root handle shares (Err Crowded) s = tt
split_fair areas near held hints old new root handle shares (Ok done) s = tt

low : (word : ℕ) → word % 2 ^ 31 + 1 < 2 ^ 32
low word = omega arith

new_block : (area : ℕ) (slots : AreaBlock) (slot : ℕ) → slot < 960 → block_at (next_handle area slots slot) ≡ slot_block area slot
new_block area slots slot less = let g = low (get_or slots.words slot 0) in omega (arith, less, g)

-- a slot that is taken
allot_held : (areas near : ℕ) (held : Held) (old one : List Changed) (right : ℕ) → IsHeldDraft held old → AllocatesAt held old one near areas (Ok right) → IsHeldDraft held one × IsSome (held (block_at right) Exclusive)
allot_held areas near held old one right before a =
    let t = a.takes in
    let at = new_block a.area a.slots a.slot a.next.free.lowest.there in (
      allocates_held held old one before near areas (Ok right) a tt,
      subst (λ (b : ℕ). IsSome (held b Exclusive)) (sym (ap block_at t.1 ∙ at)) t.0.at_held,
    )

module _ (areas near : ℕ) (held : Held) (old new : List Changed) (root handle : ℕ) (page : Contents) (before : IsHeldDraft held old) (there : IsSome (held (block_at handle) Exclusive)) where
  root_cut_held : handle ≡ root → (c : CutsRoot held old new root page near areas) → IsHeldDraft held new × IsSome (held (block_at c.left) Exclusive) × IsSome (held (block_at c.right) Exclusive)
  root_cut_held at_root c =
      let one = (c.allots).0 in
      let a = allot_held areas near held old one c.left before (c.allots).1 in
      let b = allot_held areas near held one c.two c.right a.0 (c.allots).2 in
      let three = page_held held c.two c.three c.left _ b.0 a.1 c.puts_first in
      let four = page_held held c.three c.four c.right _ three b.1 c.puts_other in
      (page_held held c.four new root _ four (subst (λ (h : ℕ). IsSome (held (block_at h) Exclusive)) at_root there) c.puts_root, a.1, b.1)

  page_cut_held : (c : CutsPage held old new handle page near areas) → IsHeldDraft held new × IsSome (held (block_at c.right) Exclusive)
  page_cut_held c =
      let a = allot_held areas near held old c.one c.right before c.allots in
      let two = page_held held c.one c.two c.right _ a.0 a.1 c.puts_other in
      (page_held held c.two new handle _ two there c.puts_first, a.1)

  pub cut_held : (result : Result Unit BlinkError) → ((handle ≡ root) × RaisesAt held old new root page near areas result) ⊎ ((handle ≢ root) × CutsAt held old new handle page near areas result) → OnOk result (IsHeldDraft held new)
  cut_held (Err e) c = tt
  cut_held (Ok done) c = elim c [ inl r ↦ (root_cut_held r.0 r.1).0 | inr r ↦ (page_cut_held r.1).0 ]

  -- the halves of a page are put where blocks are held exclusively
  pub halves_held : (halves : Halves) → HalvesAt held old new root handle page near areas (Ok halves) → IsHeldDraft held new × IsSome (held (block_at halves.left) Exclusive) × IsSome (held (block_at halves.right) Exclusive)
  halves_held halves h = elim h [
    | inl r ↦ (
        let c = root_cut_held r.0 (r.1).cuts in
        subst (λ (x : Halves). IsHeldDraft held new × IsSome (held (block_at x.left) Exclusive) × IsSome (held (block_at x.right) Exclusive)) (sym (r.1).halves_are) c)
    | inr r ↦ (
        let c = page_cut_held (r.1).cuts in
        subst (λ (x : Halves). IsHeldDraft held new × IsSome (held (block_at x.left) Exclusive) × IsSome (held (block_at x.right) Exclusive)) (sym (r.1).halves_are) (c.0, there, c.1))
  ]

pub split_held : (areas near : ℕ) (held : Held) (hints : Hints) (old new : List Changed) (root handle : ℕ) → IsHeldDraft held old → (result : Result Unit BlinkError) → SplitsAt held hints old new root handle near areas result
    → OnOk result (IsHeldDraft held new)
split_held areas near held hints old new root handle before (Err e) s = tt
split_held areas near held hints old new root handle before (Ok done) s =
    cut_held areas near held old new root handle s.page before (seen_held held old (block_at handle) (s.owned).block before (s.owned).there) (Ok done) s.cuts

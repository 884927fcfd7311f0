-- What is needed is a block of the volume that isn't held.
use Rattle.std.proofs.Common.{◌≡◌, ℕ, ◌<◌, inl, inr, arith, true, List, Option, Some, None, Result, Ok, Err, refl, sym, subst}
use Rattle.std.proofs.lemmas.Bool.Decides.{nat_tests}
use Rattle.bx_base.specs.declared.names.Mode.{Mode}
use Rattle.bx_base.specs.declared.names.Mode.TheVariants.{Shared, Exclusive}
use Rattle.bx_layout.specs.declared.block.Block.{Block}
use Rattle.bx_places.specs.Places.{is_block}
use Rattle.bx_records.specs.Drafts.{Changed}
use Rattle.bx_truth.specs.Chunks.{own_block}
use Rattle.bx_truth.specs.bx_views.specs.Truths.{Held}
use Rattle.bx_chunks.specs.Allocating.{AllocatesAt, LacksOneOf, first, second, NeedsFairly, slot_block}
use Rattle.bx_chunks.specs.Areas.{area_in_turn}
use Rattle.bx_chunks.specs.declared.error.ChunkError.{ChunkError}
use Rattle.bx_chunks.specs.declared.error.ChunkError.TheVariants.{Need, Stale, Full, OutOfMemory, Crowded}
use Rattle.bx_chunks.proofs.Turns.{turn_within}
use Rattle.bx_chunks.proofs.Options.{none_some}

-- what is held exclusively is held shared, too
abbrev pub Shares : Held → Type 0
Shares held = (at : ℕ) (block : Block) → held at Exclusive ≡ Some block → held at Shared ≡ Some block

not_exclusive : (held : Held) → Shares held → (at : ℕ) → held at Shared ≡ None → held at Exclusive ≡ None
not_exclusive held shares at none = by (held at Exclusive) refl
  where
    by : (o : Option Block) → held at Exclusive ≡ o → held at Exclusive ≡ None
    by None e = e
    by (Some block) e = absurd (none_some (held at Shared) block none (shares at block e))

pub own_there : (areas area : ℕ) → area < areas → is_block areas (own_block area) ≡ true
own_there areas area less = grind (arith, nat_tests, less)

pub slot_there : (areas area slot : ℕ) → area < areas → slot < 960 → is_block areas (slot_block area slot) ≡ true
slot_there areas area slot less there = grind (arith, nat_tests, less, there)

lacks_one : (areas : ℕ) (held : Held) (own at x : ℕ) → is_block areas own ≡ true → is_block areas at ≡ true → LacksOneOf held own at x → (is_block areas x ≡ true) × (held x Exclusive ≡ None)
lacks_one areas held own at x is also (first none) = (is, none)
lacks_one areas held own at x is also (second some none) = (also, none)

pub fair : (areas near : ℕ) (held : Held) (old new : List Changed) → Shares held → (r : Result ℕ ChunkError) → AllocatesAt held old new near areas r → NeedsFairly areas held r
fair areas near held old new shares (Err (Need at mode)) (inl lacks) =
    let l = lacks.0 in
    subst (λ (m : Mode). (is_block areas at ≡ true) × (held at m ≡ None)) (sym lacks.1)
    (subst (λ (n : ℕ). (is_block areas n ≡ true) × (held n Exclusive ≡ None)) (sym l.at_is)
    (own_there areas (area_in_turn near areas l.turn) (turn_within near areas l.turn l.within), not_exclusive held shares (own_block (area_in_turn near areas l.turn)) l.missing))
fair areas near held old new shares (Err (Need at mode)) (inr takes) =
    let within = subst (λ (n : ℕ). n < areas) (sym takes.next.area_is) (turn_within near areas takes.next.turn takes.next.within) in
    subst (λ (m : Mode). (is_block areas at ≡ true) × (held at m ≡ None)) (sym takes.takes.1)
    (lacks_one areas held (own_block takes.area) (slot_block takes.area takes.slot) at (own_there areas takes.area within) (slot_there areas takes.area takes.slot within takes.next.free.lowest.there) takes.takes.0)
fair areas near held old new shares (Ok handle) at = tt
fair areas near held old new shares (Err Stale) at = tt
fair areas near held old new shares (Err (Full spare)) at = tt
fair areas near held old new shares (Err OutOfMemory) at = tt
fair areas near held old new shares (Err Crowded) at = tt

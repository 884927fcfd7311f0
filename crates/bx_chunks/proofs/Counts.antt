-- Areas that are held, one after the other.
use Rattle.std.proofs.Common.{◌≡◌, ℕ, ◌+◌, ◌*◌, ◌<◌, ◌≤◌, ◌⊎◌, inl, inr, arith, Some, None, refl, sym, ap, subst, ◌∙◌}
use Rattle.bx_base.specs.declared.names.Mode.TheVariants.{Shared}
use Rattle.bx_layout.specs.declared.block.Block.{Block}
use Rattle.bx_truth.specs.Chunks.{own_block}
use Rattle.bx_truth.specs.bx_views.specs.Truths.{Held}
use Rattle.bx_chunks.specs.Counting.{HasFreeCount, HoldsFree, Sums}
use Rattle.bx_chunks.proofs.Options.{none_some}
use Rattle.bx_chunks.proofs.Sums.{sums_more, sums_none}

-- the areas so far are held, and have so many free slots
pub record AreHeld (held : Held) (area total : ℕ) : Type 0 where
  pub before : (other : ℕ) → other < area → held (own_block other) Shared ≡ None → ⊥
  pub sums : Sums (HoldsFree held) area total
  pub most : total ≤ 960 * area

pub held_more : (held : Held) (area next total count : ℕ) → next ≡ area + 1 → AreHeld held area total → HoldsFree held area count → count ≤ 960 → AreHeld held next (total + count)
held_more held area next total count e so_far free most = record {
  before = λ other less. by other (before other less);
  sums = sums_more (HoldsFree held) area next total count e so_far.sums free;
  most = let m = so_far.most in omega (arith, e, m, most);
}
  where
    before : (i : ℕ) → i < next → (i < area) ⊎ (i ≡ area)
    before i less = grind (arith, e, less)

    by : (other : ℕ) → (other < area) ⊎ (other ≡ area) → held (own_block other) Shared ≡ None → ⊥
    by other (inl less) none = so_far.before other less none
    by other (inr same) none = none_some (held (own_block area) Shared) free.block (subst (λ (a : ℕ). held (own_block a) Shared ≡ None) same none) free.there

pub none_held : (held : Held) → AreHeld held 0 0
none_held held = record { before = λ other less. absurd (omega (arith, less)); sums = sums_none (HoldsFree held); most = omega arith }

pub held_again : (held : Held) (area total count own found : ℕ) (block : Block) → AreHeld held area total → own ≡ own_block area → Some block ≡ held own Shared → HasFreeCount area block count
    → count ≤ 960 → found ≡ count → AreHeld held (area + 1) (total + found)
held_again held area total count own found block so_far o there free most same =
    subst (λ (n : ℕ). AreHeld held (area + 1) (total + n)) (sym same)
    (held_more held area (area + 1) total count refl so_far (record { block = block; there = ap (λ (n : ℕ). held n Shared) (sym o) ∙ sym there; counts = free }) most)

-- Numbers that are the same or not, and blocks that are there or not.
use Rattle.std.proofs.Common.{◌≡◌, ℕ, ◌⊎◌, inl, inr, Option, Some, None, refl, arith, true, false}
use Rattle.std.specs.Prelude.{◌≢◌, ◌==◌}
use Rattle.std.proofs.lemmas.Bool.Decides.{nat_tests}
use Rattle.bx_views.specs.bx_layout.specs.declared.block.Block.{Block}

-- the same, or another
pub same_or : (a b : ℕ) → (a ≡ b) ⊎ (a ≢ b)
same_or a b = grind arith

pub eq_true : (a b : ℕ) → a ≡ b → (a == b) ≡ true
eq_true a b e = grind (arith, nat_tests)

pub eq_false : (a b : ℕ) → a ≢ b → (a == b) ≡ false
eq_false a b e = grind (arith, nat_tests)

-- a block, or none
pub found : (o : Option Block) → (o ≡ None) ⊎ ((block : Block) × (o ≡ Some block))
found None = inl refl
found (Some block) = inr (block, refl)

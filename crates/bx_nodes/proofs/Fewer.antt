-- Without its first block a list of what is asked back is shorter.
use Rattle.std.proofs.Common.{◌≡◌, ℕ, suc, ◌<◌, ◌≤◌, Bool, true, false, List, [], ◌∷◌, length, Some, refl, ap, arith}
use Rattle.std.specs.Prelude.{◌==◌, if◌then◌else◌, not}
use Rattle.std.proofs.lemmas.Bool.Decides.{nat_tests}
use Rattle.bx_facts.specs.Holds.{first_of, without_block}

no_more : (block : ℕ) (asks : List (ℕ × ℕ)) → length (without_block block asks) ≤ length asks
no_more block [] = omega arith
no_more block (one ∷ rest) = by (one.0 == block) (no_more block rest)
  where
    by : (b : Bool) → length (without_block block rest) ≤ length rest → length (if not b then one ∷ without_block block rest else without_block block rest) ≤ suc (length rest)
    by true low = omega (arith, low)
    by false low = omega (arith, low)

pub fewer : (asks : List (ℕ × ℕ)) (asked : ℕ × ℕ) → first_of asks ≡ Some asked → length (without_block asked.0 asks) < length asks
fewer [] asked is = absurd cc
fewer (one ∷ rest) asked is = by (one.0 == asked.0) refl (no_more asked.0 rest)
  where
    same : one ≡ asked
    same = cc

    by : (b : Bool) → (one.0 == asked.0) ≡ b → length (without_block asked.0 rest) ≤ length rest → length (if not b then one ∷ without_block asked.0 rest else without_block asked.0 rest) < suc (length rest)
    by true is_same low = omega (arith, low)
    by false differ low = absurd (let e : one.0 ≡ asked.0 = ap (λ (a : ℕ × ℕ). a.0) same in grind (arith, nat_tests, differ, e))

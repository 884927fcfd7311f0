-- Disks that have sectors.
use Rattle.std.proofs.Common.{ℕ, zero, suc, ◌<◌, ◌≤◌, List, [], ◌∷◌, length, arith}
use Rattle.std.specs.Prelude.{slice_index}

-- a disk that has some sectors is there
pub index_within : (sizes : List ℕ) (disk : ℕ) → 1 ≤ slice_index sizes disk → disk < length sizes
index_within [] disk some = absurd (omega (arith, some))
index_within (size ∷ sizes) zero some = omega arith
index_within (size ∷ sizes) (suc disk) some = let less = index_within sizes disk some in omega (arith, less)

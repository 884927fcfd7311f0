-- What it says that a half has a value, and that it is the cell's.
use Rattle.std.specs.Prelude.{◌≡◌, ℕ, ◌+◌, ◌-◌, ◌*◌, ◌<◌, ◌≤◌, ◌⊎◌, List, take, Some}
use Rattle.bx_layout.specs.Labels.{IsOpenGate}
use Rattle.bx_cell.specs.Halves.{Found, number_in, length_in, joined, half_at}

-- The gate is open, the length is at most 4096, and the header and the front of the sectors behind it tell the rest.
pub record HasHalf (sectors : ℕ → List ℕ) (half start : ℕ) (found : Found) : Type 0 where
  pub half_is : found.half ≡ half
  pub gate : IsOpenGate (sectors start)
  pub short : length_in (sectors (start + 1)) ≤ 4096
  pub number : found.number ≡ number_in (sectors (start + 1))
  pub value : found.value ≡ take (length_in (sectors (start + 1))) (joined sectors (start + 2) 8)

-- The half has it, and the other half has nothing, or something under a lower number, or under the same where this is
-- half 0.
pub record IsFound (sectors : ℕ → List ℕ) (base : ℕ) (found : Found) : Type 0 where
  pub half : found.half < 2
  pub has : half_at sectors found.half (base + 10 * found.half) ≡ Some found
  pub wins : (other : Found) → half_at sectors (1 - found.half) (base + 10 * (1 - found.half)) ≡ Some other
      → (other.number < found.number) ⊎ ((other.number ≡ found.number) × (found.half ≡ 0))

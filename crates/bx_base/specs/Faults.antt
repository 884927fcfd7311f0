-- Counts, which stop at the greatest number of 64 bits.
use Rattle.std.specs.Prelude.{◌≡◌, ℕ, ◌+◌, ◌-◌, ◌^◌, ◌<◌, ◌⊎◌, min}

-- one more, or the greatest count
abbrev pub count_up : ℕ → ℕ
count_up count = min (count + 1) (2 ^ 64 - 1)

-- A count of faults rose. At its greatest value it can't rise any more, and counts as risen.
abbrev pub Rose : ℕ → ℕ → Type 0
Rose before now = (before < now) ⊎ (now ≡ 2 ^ 64 - 1)

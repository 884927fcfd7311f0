-- The counts of a rack's faults: in all, and of each disk.
use Rattle.std.specs.Prelude.{◌≡◌, ℕ, ◌≤◌}
use Rattle.bx_base.specs.Faults.{Rose}

-- No count falls.
pub record NoneFalls (before now : ℕ) (before_of now_of : ℕ → ℕ) : Type 0 where
  pub all : before ≤ now
  pub each : (d : ℕ) → before_of d ≤ now_of d

-- No count rose.
pub record NoneRose (before now : ℕ) (before_of now_of : ℕ → ℕ) : Type 0 where
  pub all : now ≡ before
  pub each : (d : ℕ) → now_of d ≡ before_of d

-- The count in all rose, and that of this disk.
pub record BothRose (before now : ℕ) (before_of now_of : ℕ → ℕ) (disk : ℕ) : Type 0 where
  pub all : Rose before now
  pub this : Rose (before_of disk) (now_of disk)

-- Moments: what a crash at some time since another might have left.
use Rattle.std.specs.Prelude.{ℕ, ◌≤◌, ◌⊎◌}
use Rattle.bx_disk.specs.Disks.{Image, Disks, IsImage}

-- Time goes on: a crash since t might have left what it might have left before, or what it may leave now.
pub record Elapses (before now : ℕ) (past since : ℕ → Image → Type 0) (disks : Disks) : Type 0 where
  pub later : before ≤ now
  pub nothing_else : (t : ℕ) (image : Image) → t ≤ before → since t image → past t image ⊎ IsImage disks image
  pub keeps : (t : ℕ) (image : Image) → t ≤ before → past t image → since t image

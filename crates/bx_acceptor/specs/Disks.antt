-- What a start and a put do to the disks of a rack, at every outcome.
use Rattle.std.specs.Prelude.{ℕ}
use Rattle.bx_calls.specs.Calls.{HasSure, KeepsAll, KeepsSure, LeavesOnly}
use Rattle.bx_disk.specs.Disks.{Disks, Image, IsImage}

-- A start syncs one disk.
pub record Syncs (old new : Disks) (before now : ℕ) (past since : ℕ → Image → Type 0) (disk : ℕ) : Type 0 where
  pub keeps : KeepsAll old new disk
  pub any_moment : LeavesOnly before now past since (IsImage old)

-- A put writes the cell of one disk.
pub record Writes (old new : Disks) (before now : ℕ) (past since : ℕ → Image → Type 0) (disk : ℕ) : Type 0 where
  pub keeps : KeepsSure old new disk 1 20
  pub beside : LeavesOnly before now past since (HasSure old disk 1 20)

-- The gates of a log as bytes that were read.
use Rattle.std.specs.Prelude.{ℕ, ◌<◌, ◌≤◌, List}
use Rattle.bx_disk.specs.Disks.{sector_of}
use Rattle.bx_layout.specs.Labels.{IsOpenGate}

-- So many of the eight gates are open, from gate 0 on.
pub record IsOpenRun (gates : List ℕ) (open_gates : ℕ) : Type 0 where
  pub most : open_gates ≤ 8
  pub opened : (gate : ℕ) → gate < open_gates → IsOpenGate (sector_of gates gate)
  pub end : open_gates < 8 → IsOpenGate (sector_of gates open_gates) → ⊥

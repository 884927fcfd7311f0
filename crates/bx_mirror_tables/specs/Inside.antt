-- Runs that lie within a device.
use Rattle.std.specs.Prelude.{ℕ, ◌+◌, ◌/◌, ◌≤◌, List, Contains, length}
use Rattle.bx_records.specs.declared.runs.Run.{Run}

-- A run lies behind the label, and ends within so many sectors.
pub record IsInside (room : ℕ) (run : Run) : Type 0 where
  pub behind_label : 1 ≤ run.place
  pub within : run.place + length run.bytes / 512 ≤ room

pub record AreInside (room : ℕ) (runs : List Run) : Type 0 where
  pub each : (run : Run) → Contains runs run → IsInside room run

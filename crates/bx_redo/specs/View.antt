-- How a log is seen.
use Rattle.std.specs.Prelude.{ℕ, ◌<◌, ◌≤◌, Bool}
use Rattle.bx_redo.specs.declared.work.Work.{Work}
use Rattle.bx_redo.specs.declared.work.Work.TheVariants.{Idle, Body, Opens, Closes, Shuts}

-- a log: its slot and the slot's device, how many of its records are open, its work, and whether a write of it is out
pub record LogView : Type 0 where
  pub slot : ℕ
  pub device : ℕ
  pub count : ℕ
  pub work : Work
  pub out : Bool

-- a record that is under way has a body and a gate of its own
abbrev pub HasRecordRoom : Work → ℕ → Type 0
HasRecordRoom Idle count = Unit {0}
HasRecordRoom (Body text point) count = count < 8
HasRecordRoom (Opens point) count = count < 8
HasRecordRoom Closes count = Unit {0}
HasRecordRoom Shuts count = Unit {0}

-- what every log has
pub record IsLog (log : LogView) : Type 0 where
  pub is_slot : log.slot < 8
  pub most : log.count ≤ 8
  pub room : HasRecordRoom log.work log.count

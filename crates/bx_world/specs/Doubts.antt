-- What the logs of a course have of the calls of a run: records of calls that have their points, and, in doubt, such as are of calls without one.
use Rattle.std.specs.Prelude.{◌≡◌, ℕ, false, List, Contains, Option}
use Rattle.bx_cluster.specs.Closing.{lacks_point}
use Rattle.bx_history.specs.Account.{LacksPoint}
use Rattle.bx_history.specs.Parts.{Part, trace_of}
use Rattle.bx_history.specs.Placed.{HasReadingSince}
use Rattle.bx_history.specs.Trace.{Taking}
use Rattle.bx_rows.specs.declared.session.SessionRow.{SessionRow}
use Rattle.bx_views.specs.Attempts.{Deed}
use Rattle.bx_volume.specs.Overlay.{Logs}
use Rattle.bx_volume.specs.Records.{Logged}
pub use Rattle.bx_world_machines.specs.Doubts.{MayBeOpen}
use Rattle.bx_world_standing.specs.bx_world_logs.specs.Logs.{Slot}
use Rattle.bx_world_standing.specs.bx_world_views.specs.Views.{Unacknowledged}

-- A record in doubt is of a call that was taken and has no point; it is to act at a reading since.
pub record IsOfTaken (parts : List Part) (doubt : Unacknowledged) (deed : Deed) : Type 0 where
  pub taking : Taking
  pub lacks : LacksPoint (trace_of parts) taking
  pub call : doubt.call ≡ taking.call
  pub client : deed.client ≡ taking.client
  pub bytes : deed.call ≡ taking.bytes
  pub since : HasReadingSince taking.call deed.moment parts

-- Records whose gates may be open are of such calls, no two of one.
pub record AreOfTaken (parts : List Part) (rows : List SessionRow) (slots : ℕ → Slot) (doubts : ℕ → Option Unacknowledged) : Type 0 where
  pub each : (session : ℕ) (doubt : Unacknowledged) (deed : Deed) → MayBeOpen rows slots doubts session doubt deed → IsOfTaken parts doubt deed
  pub once : (session other : ℕ) (doubt twin : Unacknowledged) (deed act : Deed) → MayBeOpen rows slots doubts session doubt deed → MayBeOpen rows slots doubts other twin act → twin.call ≡ doubt.call → other ≡ session

-- and no record of a log is of a call that has no point
abbrev pub HavePoints : List Part → Logs → Type 0
HavePoints parts logs = (slot : ℕ) (one : Logged) → Contains (logs slot) one → lacks_point (trace_of parts) one.head.call ≡ false

-- A trace along a schedule: what happens at each line, and the lines of the trace that come at it.
use Rattle.std.specs.Prelude.{◌≡◌, ◌==◌, ℕ, Bool, true, false, List, [], ◌∷◌, map, reverse, Some, None}
use Rattle.std.specs.List.{AllByRecursion}
use Rattle.bx_base.specs.declared.names.Actor.{Actor}
use Rattle.bx_base.specs.declared.names.Actor.TheVariants.{Node, Replica, Server, Member}
use Rattle.bx_script.specs.Schedule.{reading_of}
use Rattle.bx_script.specs.declared.line.Line.{Line}
use Rattle.bx_script.specs.declared.line.Line.TheVariants.{Call, Run, Crash, CrashAll}
use Rattle.bx_script.specs.declared.trace_line.TraceLine.{TraceLine}
use Rattle.bx_history.specs.Parts.{Happening, Part, trace_of}
use Rattle.bx_history.specs.Placed.{Rules, PlacedNewest, IsClosing}

-- no node ends
abbrev pub none_ends : ℕ → Bool
none_ends node = false

-- each node ends
abbrev pub all_end : ℕ → Bool
all_end node = true

-- a machine ends, which may be this node
abbrev pub ends_one : Actor → ℕ → Bool
ends_one (Node n) node = n == node
ends_one (Replica n) node = false
ends_one (Server n) node = false
ends_one (Member n) node = false

-- what happens at a line of a schedule
abbrev pub happening : Line → Happening
happening (Call reading node client bytes) =
    record { arrives = Some (record { node = node; client = client; bytes = bytes }); reading = Some reading; ends = none_ends; runs = false }
happening (Run reading limit) = record { arrives = None; reading = Some reading; ends = none_ends; runs = true }
happening (Crash machine noise) = record { arrives = None; reading = None; ends = ends_one machine; runs = false }
happening (CrashAll noise) = record { arrives = None; reading = None; ends = all_end; runs = false }
happening line = record { arrives = None; reading = reading_of line; ends = none_ends; runs = false }

-- a line of the schedule that was done, with the lines of the trace that came at it, the newest first
pub record Done : Type 0 where
  pub line : Line
  pub lines : List TraceLine

-- the part of a run that it is
abbrev pub part_of : Done → Part
part_of done = record { what = happening done.line; lines = done.lines }

abbrev pub parts_of : List Done → List Part
parts_of all = map part_of all

-- the lines of the schedule, the oldest first; those that were done have the newest first
abbrev pub schedule_of : List Done → List Line
schedule_of all = reverse (map (λ done. done.line) all)

-- the trace splits into a part for each line of the schedule, and a closing part
pub record IsPlaced (rules : Rules) (schedule : List Line) (trace closing : List TraceLine) : Type 0 where
  pub done : List Done
  pub along : map (λ done. done.line) done ≡ reverse schedule
  pub whole : trace_of (parts_of done) ≡ reverse trace
  pub placed : PlacedNewest rules (parts_of done)
  pub closed : AllByRecursion (IsClosing (parts_of done)) closing

-- Lines that were done, the newest first: each was allowed behind those before it.
abbrev pub AllowedNewest : (List Line → Line → Type 0) → List Line → Type 0
AllowedNewest Allows [] = Unit {0}
AllowedNewest Allows (line ∷ before) = Allows before line × AllowedNewest Allows before

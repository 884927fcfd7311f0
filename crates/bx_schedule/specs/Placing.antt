-- A trace along a schedule: the parts of a run that the events of each line are, and the lines of the trace that come then.
use Rattle.std.specs.Prelude.{◌≡◌, ◌⊎◌, ℕ, ◌≤◌, ◌<◌, ◌&&◌, ◌||◌, not, Bool, true, false, List, [], ◌∷◌, ◌++◌, length, map, reverse, Option, Some, None}
use Rattle.std.specs.List.{AllByRecursion, Contains}
use Rattle.bx_base.specs.declared.names.Actor.{Actor}
use Rattle.bx_base.specs.declared.names.Actor.TheVariants.{Node}
use Rattle.bx_history.specs.Along.{ends_one}
use Rattle.bx_history.specs.Parts.{Arrival, Part, trace_of}
use Rattle.bx_history.specs.Placed.{IsClosing, PlacedNewest, Rules}
use Rattle.bx_post.specs.Machines.{is_same}
use Rattle.bx_script.specs.Schedule.{reading_of}
use Rattle.bx_script.specs.declared.line.Line.{Line}
use Rattle.bx_script.specs.declared.line.Line.TheVariants.{Heading, Call, Run, Tick, Deliver, Next, Sync, Hold, Free, Drop, Crash, CrashAll, Restart, RestartAll, Blank}
use Rattle.bx_script.specs.declared.trace_line.TraceLine.{TraceLine}
use Rattle.bx_world_events.specs.Causes.{IsThere}
use Rattle.bx_world_events.specs.Refusals.{Seen}
use Rattle.bx_schedule.specs.Execution.{ComesBy, Snapshot}

-- A line that was done, with the parts that its events are, the newest first.
pub record Done : Type 0 where
  pub line : Line
  pub parts : List Part

-- the parts of lines that were done; both have the newest first
abbrev pub parts_of : List Done → List Part
parts_of [] = []
parts_of (done ∷ before) = done.parts ++ parts_of before

abbrev pub lines_of : List Done → List Line
lines_of all = map (λ done. done.line) all

-- the lines of the schedule, the oldest first
abbrev pub schedule_of : List Done → List Line
schedule_of all = reverse (lines_of all)

-- ---- which machines are down, by lines

-- whether a machine is down behind a line, by whether it was before
abbrev pub is_down_by : Line → Actor → Bool → Bool
is_down_by (Crash machine noise) who was = is_same machine who || was
is_down_by (CrashAll noise) who was = true
is_down_by (Restart reading machine) who was = not (is_same machine who) && was
is_down_by (RestartAll reading) who was = false
is_down_by line who was = was

-- behind these lines, the newest first, of machines of which none stopped by itself; all are up at first
abbrev pub is_down_after : List Line → Actor → Bool
is_down_after [] who = false
is_down_after (line ∷ before) who = is_down_by line who (is_down_after before who)

-- how many nodes the heading has
abbrev pub nodes_after : List Line → ℕ
nodes_after [] = 0
nodes_after (Heading volume nodes devices areas ∷ before) = nodes
nodes_after (line ∷ before) = nodes_after before

-- ---- the parts of a line

-- the datagram that a line has arrive
abbrev pub arrival_of : Line → Option Arrival
arrival_of (Call reading node client datagram) = Some (record { node = node; client = client; bytes = datagram })
arrival_of line = None

-- A part has the reading of its line; of a run's parts some have none: disks that finish a sync have no clock.
abbrev pub HasReadingOf : Line → Option ℕ → Type 0
HasReadingOf (Run reading limit) its = (its ≡ Some reading) ⊎ (its ≡ None)
HasReadingOf line its = its ≡ reading_of line

-- What happens in a part is what its line has happen.
pub record IsPartOf (line : Line) (part : Part) : Type 0 where
  pub arrives : part.what.arrives ≡ arrival_of line
  pub reading : HasReadingOf line part.what.reading
  pub single : part.what.runs ≡ false

-- How many parts a line has. One event is one part; a run has at most its limit; where all machines crash, or start again, each that does is one; and what is held, freed or dropped
-- is no event.
abbrev pub HasCount : Line → ℕ → Type 0
HasCount (Heading volume nodes devices areas) count = count ≡ 0
HasCount (Call reading node client datagram) count = count ≡ 1
HasCount (Run reading limit) count = count ≤ limit
HasCount (Tick reading machine) count = count ≡ 1
HasCount (Deliver reading number) count = count ≡ 1
HasCount (Next reading from to) count = count ≡ 1
HasCount (Sync machine) count = count ≡ 1
HasCount (Hold from to kind) count = count ≡ 0
HasCount (Free from to kind) count = count ≡ 0
HasCount (Drop from to kind) count = count ≡ 0
HasCount (Crash machine noise) count = count ≡ 1
HasCount (CrashAll noise) count = Unit {0}
HasCount (Restart reading machine) count = count ≡ 1
HasCount (RestartAll reading) count = Unit {0}
HasCount (Blank machine) count = count ≡ 1

-- the nodes that a line ends
abbrev pub Ends : Line → ℕ → Type 0
Ends (Crash machine noise) node = ends_one machine node ≡ true
Ends (CrashAll noise) node = Unit {0}
Ends line node = ⊥

-- a node ends in one of these parts
abbrev pub EndsIn : List Part → ℕ → Type 0
EndsIn parts node = (part : Part) × Contains parts part × (part.what.ends node ≡ true)

-- The nodes that end in the parts of a line are those that it ends and that were up; or a machine may have stopped by itself.
pub record EndAsLine (MayStop : Type 0) (before : List Line) (line : Line) (parts : List Part) : Type 0 where
  pub only : (node : ℕ) → EndsIn parts node → Ends line node ⊎ MayStop
  pub each : (node : ℕ) → node < nodes_after before → is_down_after before (Node node) ≡ false → Ends line node → EndsIn parts node ⊎ MayStop

-- These parts, the newest first, are those of a line that comes behind others.
pub record ArePartsOf (MayStop : Type 0) (before : List Line) (line : Line) (parts : List Part) : Type 0 where
  pub each : AllByRecursion (IsPartOf line) parts
  pub count : HasCount line (length parts)
  pub ends : EndAsLine MayStop before line parts

-- Which machines are down is told by the lines before, or a machine may have stopped by itself.
abbrev pub IsByLines : Type 0 → List Line → Seen → Type 0
IsByLines MayStop before seen = (who : Actor) → IsThere seen who → (seen.down who ≡ is_down_after before who) ⊎ MayStop

-- so are those of lines, the newest first
abbrev pub AreOfLines : Type 0 → List Done → Type 0
AreOfLines MayStop [] = Unit {0}
AreOfLines MayStop (done ∷ before) = ArePartsOf MayStop (lines_of before) done.line done.parts × AreOfLines MayStop before

-- ---- what the lines did

-- Lines that were done, the newest first, with their parts: each did what it says, from where those before it left the cluster to where a schedule stands now. Before the heading there is no cluster.
abbrev pub IsExecution : Type 0 → List Done → Option Snapshot → Type 0
IsExecution MayStop [] now = now ≡ None
IsExecution MayStop (done ∷ earlier) now = (before : Option Snapshot) × IsExecution MayStop earlier before × ComesBy MayStop done.line done.parts before now

-- ---- the whole

-- The trace splits into parts, those of each line of the schedule, which did what it says, and a closing part.
pub record IsPlaced (MayStop : Type 0) (rules : Rules) (schedule : List Line) (trace closing : List TraceLine) : Type 0 where
  pub done : List Done
  pub along : schedule_of done ≡ schedule
  pub of_lines : AreOfLines MayStop done
  pub now : Option Snapshot
  pub execution : IsExecution MayStop done now
  pub whole : trace_of (parts_of done) ≡ reverse trace
  pub placed : PlacedNewest rules (parts_of done)
  pub closed : AllByRecursion (IsClosing (parts_of done)) closing

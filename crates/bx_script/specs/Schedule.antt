-- What a schedule is.
use Rattle.std.specs.Prelude.{◌≡◌, ℕ, ◌<◌, ◌≤◌, Bool, true, false, List, [], ◌∷◌, length, map, Option, Some, None}
use Rattle.std.specs.List.{AllByRecursion}
use Rattle.bx_base.specs.declared.names.Actor.{Actor}
use Rattle.bx_base.specs.declared.names.Actor.TheVariants.{Node}
use Rattle.bx_script.specs.declared.line.Line.{Line}
use Rattle.bx_script.specs.declared.line.Line.TheVariants.{Heading, Call, Run, Tick, Deliver, Next, Sync, Hold, Free, Drop, Crash, CrashAll, Restart, RestartAll, Blank}
use Rattle.bx_script.specs.ScheduleLine.{InRange, spelling}

abbrev pub is_heading : Line → Bool
is_heading (Heading volume nodes devices areas) = true
is_heading line = false

-- the clock's reading at a line, where it has one
abbrev pub reading_of : Line → Option ℕ
reading_of (Call reading node client datagram) = Some reading
reading_of (Run reading limit) = Some reading
reading_of (Tick reading machine) = Some reading
reading_of (Deliver reading number) = Some reading
reading_of (Next reading from to) = Some reading
reading_of (Restart reading machine) = Some reading
reading_of (RestartAll reading) = Some reading
reading_of line = None

-- the number of a node, where a machine is one
abbrev pub node_number : Actor → Option ℕ
node_number (Node n) = Some n
node_number machine = None

-- the node that has to hear a line, where there is one: a datagram arrives there, or its clock ticks
abbrev pub node_of : Line → Option ℕ
node_of (Call reading node client datagram) = Some node
node_of (Tick reading machine) = node_number machine
node_of line = None

-- a line in the grammar, in its place: the heading comes first, and nowhere else
abbrev pub HasPlace : Bool → Line → Type 0
HasPlace first line = InRange line × (is_heading line ≡ first)

-- the first lines of a schedule, maybe none
abbrev pub BeginsSchedule : List Line → Type 0
BeginsSchedule [] = Unit {0}
BeginsSchedule (line ∷ lines) = HasPlace true line × AllByRecursion (HasPlace false) lines

-- these lines of text are a schedule: a heading, and other lines
pub record IsSchedule (texts : List (List ℕ)) (schedule : List Line) : Type 0 where
  pub spelled : texts ≡ map spelling schedule
  pub begins : BeginsSchedule schedule
  pub headed : 0 < length schedule
  pub few : length schedule ≤ 4294967295

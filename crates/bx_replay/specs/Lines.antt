-- Which lines of a schedule may come behind others, and why one is refused, as the lines tell it.
use Rattle.std.specs.Prelude.{◌≡◌, ◌⊎◌, ◌/◌, ◌<◌, ◌==◌, ℕ, Bool, true, false, List, [], ◌∷◌, length, reverse, Option, Some, None, IfSome, IsSomeAnd}
use Rattle.std.specs.List.{AllByRecursion}
use Rattle.bx_base.specs.declared.names.Actor.{Actor}
use Rattle.bx_base.specs.declared.names.Actor.TheVariants.{Node, Replica, Server, Member}
use Rattle.bx_history.specs.Along.{AllowedNewest}
use Rattle.bx_lease.specs.Readings.{IsTooFarBack, back_by}
use Rattle.bx_opens.specs.bx_cluster.specs.Steps.{greatest_reading}
use Rattle.bx_schedule.specs.Placing.{is_down_after, nodes_after}
use Rattle.bx_script.specs.Schedule.{HasPlace, reading_of}
use Rattle.bx_script.specs.declared.line.Line.{Line}
use Rattle.bx_script.specs.declared.line.Line.TheVariants.{Heading, Call, Tick, Deliver, Next, Sync, Hold, Free, Drop, Crash, Restart, Blank}
use Rattle.bx_stops.specs.declared.stop.Reason.{Reason}
use Rattle.bx_stops.specs.declared.stop.Reason.TheVariants.{Grammar, NoMachine, ClockBack, NoPacket, Up, Down, NothingToSync, StillNeeded}

-- ---- what lines name

-- the machines that a line names; those between which a packet is to arrive needn't be there
abbrev pub machines_of : Line → List Actor
machines_of (Call reading node client datagram) = Node node ∷ []
machines_of (Tick reading machine) = machine ∷ []
machines_of (Sync machine) = machine ∷ []
machines_of (Hold from to kind) = from ∷ to ∷ []
machines_of (Free from to kind) = from ∷ to ∷ []
machines_of (Drop from to kind) = from ∷ to ∷ []
machines_of (Crash machine noise) = machine ∷ []
machines_of (Restart reading machine) = machine ∷ []
machines_of (Blank machine) = machine ∷ []
machines_of line = []

-- the machine that has to be up, and the one that has to be down
abbrev pub needs_up : Line → Option Actor
needs_up (Call reading node client datagram) = Some (Node node)
needs_up (Tick reading machine) = Some machine
needs_up (Sync machine) = Some machine
needs_up (Crash machine noise) = Some machine
needs_up line = None

abbrev pub needs_down : Line → Option Actor
needs_down (Restart reading machine) = Some machine
needs_down (Blank machine) = Some machine
needs_down line = None

-- a line by which a packet arrives: it has this number, as far as the line tells
abbrev pub MayName : Line → ℕ → Type 0
MayName (Deliver reading its) number = its ≡ number
MayName (Next reading from to) number = Unit {0}
MayName line number = ⊥

abbrev pub IsArrival : Line → Type 0
IsArrival (Deliver reading number) = Unit {0}
IsArrival (Next reading from to) = Unit {0}
IsArrival line = ⊥

abbrev pub IsSync : Line → Type 0
IsSync (Sync machine) = Unit {0}
IsSync line = ⊥

abbrev pub IsBlank : Line → Type 0
IsBlank (Blank machine) = Unit {0}
IsBlank line = ⊥

-- ---- what lines tell of machines

-- How many nodes and devices there are, none before the heading; the greatest reading of a clock so far, in milliseconds; and which machines are down, as far as lines tell.
pub record Machines : Type 0 where
  pub nodes : ℕ
  pub devices : ℕ
  pub greatest : ℕ
  pub down : Actor → Bool

abbrev pub greatest_of : List Line → ℕ
greatest_of [] = 0
greatest_of (line ∷ before) = greatest_reading (reading_of line) (greatest_of before)

-- how many devices the heading has
abbrev pub devices_in : List Line → ℕ
devices_in [] = 0
devices_in (Heading volume nodes devices areas ∷ before) = devices
devices_in (line ∷ before) = devices_in before

-- behind these lines, the newest first
abbrev pub after_lines : List Line → Machines
after_lines before = record { nodes = nodes_after before; devices = devices_in before; greatest = greatest_of before; down = is_down_after before }

-- the cluster has a machine
abbrev pub HasMachine : Machines → Actor → Type 0
HasMachine machines (Node n) = n < machines.nodes
HasMachine machines (Replica n) = n < 3
HasMachine machines (Server n) = n < 2
HasMachine machines (Member n) = n / 2 < machines.devices

-- ---- what may come

-- the machines that a line names are there
abbrev pub AllAreThere : Machines → Line → Type 0
AllAreThere machines line = AllByRecursion (HasMachine machines) (machines_of line)

-- the reading of a line lies at most 500 ms behind the greatest one before it
abbrev pub IsSteady : Machines → Line → Type 0
IsSteady machines line = IfSome (reading_of line) (λ reading. IsTooFarBack machines.greatest reading → ⊥)

-- Whoever has to be up is up as lines tell; whoever has to be down is down as they tell, or a machine may have stopped by itself.
abbrev pub IsFit : Type 0 → Machines → Line → Type 0
IsFit MayStop machines line = IfSome (needs_up line) (λ who. machines.down who ≡ false) × IfSome (needs_down line) (λ who. (machines.down who ≡ true) ⊎ MayStop)

-- A line may be done behind these, the newest of which comes first: there is room for it, it has its place, and by what lines tell it may come then. (Whether a packet is there, a write waits, or a
-- disk is needed, lines don't tell.)
pub record Allows (MayStop : Type 0) (before : List Line) (line : Line) : Type 0 where
  pub few : length before < 4294967295
  pub in_place : HasPlace (length before == 0) line
  pub there : AllAreThere (after_lines before) line
  pub steady : IsSteady (after_lines before) line
  pub fit : IsFit MayStop (after_lines before) line

-- the lines that a replay has done, the oldest first: each was allowed behind those before it
abbrev pub AreDone : Type 0 → List Line → Type 0
AreDone MayStop done = AllowedNewest (Allows MayStop) (reverse done)

-- ---- what is refused

-- a reading lies further behind the greatest one than clocks may differ, by so much
abbrev pub IsBackBy : ℕ → Option ℕ → ℕ → Type 0
IsBackBy greatest reading by = IsSomeAnd reading (λ r. IsTooFarBack greatest r × (by ≡ back_by greatest r))

-- A line in the grammar is refused for the first of these reasons that it meets: a machine that it names isn't there; its reading lies too far back; there is no such packet; a machine that has to be
-- down is up; one that has to be up is down; no write waits; the disk is needed still.
abbrev pub IsRefusedLine : Type 0 → Reason → Machines → Line → Type 0
IsRefusedLine MayStop Grammar machines line = ⊥
IsRefusedLine MayStop NoMachine machines line = AllAreThere machines line → ⊥
IsRefusedLine MayStop (ClockBack by) machines line = AllAreThere machines line × IsBackBy machines.greatest (reading_of line) by
IsRefusedLine MayStop (NoPacket number) machines line = IsSteady machines line × MayName line number
IsRefusedLine MayStop Up machines line = AllAreThere machines line × IsSteady machines line × IsSomeAnd (needs_down line) (λ who. machines.down who ≡ false)
IsRefusedLine MayStop Down machines line = AllAreThere machines line × IsSteady machines line × (IsArrival line ⊎ IsSomeAnd (needs_up line) (λ who. (machines.down who ≡ true) ⊎ MayStop))
IsRefusedLine MayStop NothingToSync machines line = AllAreThere machines line × IsSteady machines line × IsFit MayStop machines line × IsSync line
IsRefusedLine MayStop StillNeeded machines line = AllAreThere machines line × IsSteady machines line × IsFit MayStop machines line × IsBlank line

-- a reason that lines tell, whatever machines did by themselves
abbrev pub IsReasonByLines : Reason → Type 0
IsReasonByLines Grammar = Unit {0}
IsReasonByLines NoMachine = Unit {0}
IsReasonByLines (ClockBack by) = Unit {0}
IsReasonByLines (NoPacket number) = ⊥
IsReasonByLines Up = ⊥
IsReasonByLines Down = ⊥
IsReasonByLines NothingToSync = ⊥
IsReasonByLines StillNeeded = ⊥

-- A reason that lines don't tell, for a line that may be done as they tell: there is no such packet, or the machine that it is for is down; a machine stopped by itself, and so isn't up, or isn't yet
-- one that stopped where it has to be down; no write waits; the disk is needed still.
abbrev pub GoesByRun : Type 0 → Reason → Line → Type 0
GoesByRun MayStop Grammar line = ⊥
GoesByRun MayStop NoMachine line = ⊥
GoesByRun MayStop (ClockBack by) line = ⊥
GoesByRun MayStop (NoPacket number) line = MayName line number
GoesByRun MayStop Up line = IsSomeAnd (needs_down line) (λ who. MayStop)
GoesByRun MayStop Down line = IsArrival line ⊎ IsSomeAnd (needs_up line) (λ who. MayStop)
GoesByRun MayStop NothingToSync line = IsSync line
GoesByRun MayStop StillNeeded line = IsBlank line

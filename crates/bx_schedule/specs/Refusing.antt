-- Why a line is refused: by what the cluster shows, where the greatest reading of a clock is that of the lines.
use Rattle.std.specs.Prelude.{◌≡◌, ℕ, ◌+◌, nat_lt, Bool, true, false, Option, Some, None}
use Rattle.std.specs.Bool.{then_some}
use Rattle.bx_cluster.specs.Steps.{arrives_in}
use Rattle.bx_disk.specs.declared.noise.Noise.{Noise}
use Rattle.bx_driver.specs.Lanes.{HasMachines}
use Rattle.bx_driver.specs.Nexts.{IsNextNumber}
use Rattle.bx_driver.specs.declared.lane.Lane.{Lane}
use Rattle.bx_lease.specs.Readings.{back_by}
use Rattle.bx_script.specs.declared.line.Line.{Line}
use Rattle.bx_script.specs.declared.line.Line.TheVariants as lines
use Rattle.bx_world_events.specs.Events.{reading_of}
use Rattle.bx_world_events.specs.Refusals.{Seen, refusal}
use Rattle.bx_world_events.specs.declared.event.Event.{Event}
use Rattle.bx_world_events.specs.declared.event.Event.TheVariants.{Tick, Deliver, Sync, Crash, Restart, Blank}
use Rattle.bx_world_events.specs.declared.event.EventError.{EventError}
use Rattle.bx_world_events.specs.declared.event.EventError.TheVariants.{ClockBack, NoSuchMachine}

-- what is shown, with the greatest reading of the lines so far
abbrev pub at_clock : ℕ → Seen → Seen
at_clock clock seen = record seen { greatest = clock }

-- The event of a line that is one event: of the next packet between two machines it is the delivery.
abbrev pub IsEventOf : Seen → Line → Event → Type 0
IsEventOf seen (lines.Call reading node client datagram) event = (reading_of event ≡ Some reading) × (arrives_in event ≡ Some (record { node = node; client = client; bytes = datagram }))
IsEventOf seen (lines.Tick reading machine) event = event ≡ Tick reading machine
IsEventOf seen (lines.Deliver reading number) event = event ≡ Deliver reading number
IsEventOf seen (lines.Next reading from to) event = (number : ℕ) × (event ≡ Deliver reading number) × IsNextNumber seen.post from to number
IsEventOf seen (lines.Sync machine) event = event ≡ Sync machine
IsEventOf seen (lines.Crash machine noise) event = event ≡ Crash machine
IsEventOf seen (lines.Restart reading machine) event = event ≡ Restart reading machine
IsEventOf seen (lines.Blank machine) event = event ≡ Blank machine
IsEventOf seen (lines.Heading volume nodes devices areas) event = ⊥
IsEventOf seen (lines.Run reading limit) event = ⊥
IsEventOf seen (lines.Hold from to kind) event = ⊥
IsEventOf seen (lines.Free from to kind) event = ⊥
IsEventOf seen (lines.Drop from to kind) event = ⊥
IsEventOf seen (lines.CrashAll noise) event = ⊥
IsEventOf seen (lines.RestartAll reading) event = ⊥

-- whether a line is one event
abbrev pub is_event : Line → Bool
is_event (lines.Call reading node client datagram) = true
is_event (lines.Tick reading machine) = true
is_event (lines.Deliver reading number) = true
is_event (lines.Next reading from to) = true
is_event (lines.Sync machine) = true
is_event (lines.Crash machine noise) = true
is_event (lines.Restart reading machine) = true
is_event (lines.Blank machine) = true
is_event line = false

-- a reading lies too far behind the greatest one
abbrev pub back_at : ℕ → ℕ → Option EventError
back_at greatest reading = then_some (nat_lt (reading + 500) greatest) (ClockBack (back_by greatest reading))

-- a line names this lane
pub data NamesLane (line : Line) (lane : Lane) : Type 0 where
  Holds : line ≡ lines.Hold lane.from lane.to lane.kind → NamesLane line lane
  Frees : line ≡ lines.Free lane.from lane.to lane.kind → NamesLane line lane
  Drops : line ≡ lines.Drop lane.from lane.to lane.kind → NamesLane line lane

-- Why a line is refused, or that it isn't. One event is by its own cause; a run, and a restart of all machines, is by its reading alone; a line that names a lane is where one of its
-- machines isn't there; and a crash of all never is.
pub data IsRefusal (seen : Seen) (line : Line) (cause : Option EventError) : Type 0 where
  OfEvent : (event : Event) → IsEventOf seen line event → cause ≡ refusal seen event → IsRefusal seen line cause
  OfRun : (reading limit : ℕ) → line ≡ lines.Run reading limit → cause ≡ back_at seen.greatest reading → IsRefusal seen line cause
  OfRestarts : (reading : ℕ) → line ≡ lines.RestartAll reading → cause ≡ back_at seen.greatest reading → IsRefusal seen line cause
  OfLane : (lane : Lane) → NamesLane line lane → HasMachines seen lane → cause ≡ None → IsRefusal seen line cause
  OfNoLane : (lane : Lane) → NamesLane line lane → (HasMachines seen lane → ⊥) → cause ≡ Some NoSuchMachine → IsRefusal seen line cause
  OfCrashes : (noise : Noise) → line ≡ lines.CrashAll noise → cause ≡ None → IsRefusal seen line cause

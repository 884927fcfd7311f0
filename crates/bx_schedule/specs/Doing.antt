-- What a line does.
use Rattle.std.specs.Prelude.{◌≡◌, ◌⊎◌, ℕ, Bool, true, false, not, List, [], ◌∷◌, reverse, Result, Some, None, OnOk, IfErr}
use Rattle.std.specs.FinSet as set
use Rattle.bx_base.specs.declared.names.Actor.{Actor}
use Rattle.bx_cluster.specs.Steps.{greatest_reading}
use Rattle.bx_disk.specs.Disks.{Disks}
use Rattle.bx_disk.specs.declared.noise.Noise.{Noise}
use Rattle.bx_disk.specs.declared.noise.Noise.TheVariants.{Keep}
use Rattle.bx_disk.specs.declared.rack.Rack as racks
use Rattle.bx_driver.specs.Drops.{dropped}
use Rattle.bx_driver.specs.Lanes.{lane_cmp}
use Rattle.bx_driver.specs.Machines.{AreInTurn, IsDown, IsUp}
use Rattle.bx_driver.specs.Racks.{KeepsRack}
use Rattle.bx_driver.specs.Steps.{IsOne, IsRun, IsStep, EventStep}
use Rattle.bx_driver.specs.declared.lane.Lane.{Lane}
use Rattle.bx_history.specs.Parts.{Part}
use Rattle.bx_model.specs.declared.tree.Tree.{Tree}
use Rattle.bx_script.specs.Schedule.{reading_of}
use Rattle.bx_script.specs.declared.line.Line.{Line}
use Rattle.bx_script.specs.declared.line.Line.TheVariants as lines
use Rattle.bx_world_events.specs.Refusals.{Seen}
use Rattle.bx_world_events.specs.declared.event.Event.{Event}
use Rattle.bx_world_events.specs.declared.event.Event.TheVariants.{Crash, Restart}
use Rattle.bx_world_events.specs.declared.event.EventError.{EventError}
use Rattle.bx_world_events.specs.declared.event.EventError.TheVariants.{OutOfMemory}
use Rattle.bx_schedule.specs.Places.{Acts, Goes, IsSame, Place}
use Rattle.bx_schedule.specs.Refusing.{IsEventOf, IsRefusal, at_clock}

-- One of several machines has its turn: where it is down, or up, as it has to be, its event is done; else, as a fault stopped it before, it is passed over.
pub data IsTurn (event : Event) (down : Bool) (who : Actor) (from : Seen) (earlier steps : List EventStep) (to : Seen) : Type 0 where
  Does : from.down who ≡ down → (step : EventStep) → steps ≡ step ∷ earlier → step.event ≡ event → IsStep from step to → IsTurn event down who from earlier steps to
  Passes : from.down who ≡ not down → steps ≡ earlier → to ≡ from → IsTurn event down who from earlier steps to

-- machines have their turns, the last of them first
abbrev pub AreTurns : (Actor → Event) → Bool → List Actor → Seen → List EventStep → Seen → Type 0
AreTurns event down [] from steps to = (steps ≡ []) × (to ≡ from)
AreTurns event down (who ∷ before) from steps to = (middle : Seen) × (earlier : List EventStep) × AreTurns event down before from earlier middle × IsTurn (event who) down who middle earlier steps to

-- the event of a machine in its turn: it starts again where it is down, and crashes where it is up
abbrev pub turn_of : Bool → ℕ → Actor → Event
turn_of true reading = Restart reading
turn_of false reading = Crash

-- All machines that are up crash, in their order.
pub record AllCrash (from : Seen) (steps : List EventStep) (to : Seen) : Type 0 where
  pub machines : List Actor
  pub turn : AreInTurn (IsUp from) machines
  pub goes : AreTurns Crash false (reverse machines) from steps to

-- All that are down start again.
pub record AllRestart (reading : ℕ) (from : Seen) (steps : List EventStep) (to : Seen) : Type 0 where
  pub machines : List Actor
  pub turn : AreInTurn (IsDown from) machines
  pub goes : AreTurns (Restart reading) true (reverse machines) from steps to

-- nothing is done
abbrev pub AreNone : Seen → List EventStep → Seen → Type 0
AreNone from steps to = (steps ≡ []) × (to ≡ from)

-- no event is done, and the packets of a lane are dropped
abbrev pub IsDropped : Lane → Seen → List EventStep → Seen → Type 0
IsDropped lane from steps to = (steps ≡ []) × (to ≡ record from { post = dropped lane from.post })

-- The steps of a line, the newest first, where these lanes are held.
pub data IsLine (held : set.FinSet lane_cmp) (line : Line) (from : Seen) (steps : List EventStep) (to : Seen) : Type 0 where
  OneEvent : (event : Event) → IsEventOf from line event → IsOne event from steps to → IsLine held line from steps to
  Runs : (reading limit : ℕ) → line ≡ lines.Run reading limit → IsRun held reading limit from steps to → IsLine held line from steps to
  Crashes : (noise : Noise) → line ≡ lines.CrashAll noise → AllCrash from steps to → IsLine held line from steps to
  Restarts : (reading : ℕ) → line ≡ lines.RestartAll reading → AllRestart reading from steps to → IsLine held line from steps to
  Holds : (lane : Lane) → line ≡ lines.Hold lane.from lane.to lane.kind → AreNone from steps to → IsLine held line from steps to
  Frees : (lane : Lane) → line ≡ lines.Free lane.from lane.to lane.kind → AreNone from steps to → IsLine held line from steps to
  Drops : (lane : Lane) → line ≡ lines.Drop lane.from lane.to lane.kind → IsDropped lane from steps to → IsLine held line from steps to

-- what unsure sectors hold behind a crash in a line
abbrev pub noise_of : Line → Noise
noise_of (lines.Crash machine noise) = noise
noise_of (lines.CrashAll noise) = noise
noise_of line = Keep

-- the lanes that are held behind a line
abbrev pub held_after : Line → set.FinSet lane_cmp → set.FinSet lane_cmp
held_after (lines.Hold from to kind) held = set.insert held (record { from = from; to = to; kind = kind })
held_after (lines.Free from to kind) held = set.remove held (record { from = from; to = to; kind = kind })
held_after line held = held

module _ {C R : Type 0} (seen_of : C → Seen) (led_of : C → Disks → Tree → List Part → Type 0) (ra : racks.Ghosts R) where
  -- A machine had its turn: its event was done, or nothing was.
  pub data HadTurn (event : Event) (down : Bool) (who : Actor) (noise : Noise) (old : Place C) (before : R) (new : Place C) (after : R) : Type 0 where
    Acted : (seen_of old.cluster).down who ≡ down → Acts seen_of led_of ra noise event old before new after → HadTurn event down who noise old before new after
    Passed : (seen_of old.cluster).down who ≡ not down → new ≡ old → after ≡ before → HadTurn event down who noise old before new after

  -- A line was done: its steps, the lanes that are held then, and the greatest reading.
  pub record IsDone (line : Line) (old : Place C) (before : R) (new : Place C) (after : R) : Type 0 where
    pub allowed : IsRefusal (at_clock old.clock (seen_of old.cluster)) line None
    pub goes : Goes seen_of led_of ra (IsLine old.held line) (noise_of line) old before new after
    pub held : new.held ≡ held_after line old.held
    pub clock : new.clock ≡ greatest_reading (reading_of line) old.clock

  -- It was refused, and changed nothing.
  pub record IsRefused (line : Line) (error : EventError) (old : Place C) (before : R) (new : Place C) (after : R) : Type 0 where
    pub cause : IsRefusal (at_clock old.clock (seen_of old.cluster)) line (Some error)
    pub same : IsSame ra old before new after

  -- A line was done, or refused; or memory ran out.
  pub record Ends (result : Result (Unit {0}) EventError) (line : Line) (old : Place C) (before : R) (new : Place C) (after : R) : Type 0 where
    pub done : OnOk result (IsDone line old before new after)
    pub refused : IfErr result (λ error. (error ≡ OutOfMemory) ⊎ IsRefused line error old before new after)
    pub keeps : KeepsRack ra before after

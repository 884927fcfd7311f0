-- What each line of a schedule did, from where the line before it left the cluster. All of this is data: of the cluster there is what it shows.
use Rattle.std.specs.Prelude.{◌≡◌, ℕ, true, false, List, [], Option, Some, None}
use Rattle.std.specs.FinSet as set
use Rattle.bx_base.specs.declared.names.Actor.{Actor}
use Rattle.bx_cluster.specs.Steps.{greatest_reading}
use Rattle.bx_disk.specs.Disks.{Disks}
use Rattle.bx_driver.specs.Lanes.{lane_cmp}
use Rattle.bx_driver.specs.Steps.{EventStep, parts_with}
use Rattle.bx_history.specs.Parts.{Part}
use Rattle.bx_script.specs.Schedule.{reading_of}
use Rattle.bx_script.specs.declared.line.Line.{Line}
use Rattle.bx_script.specs.declared.line.Line.TheVariants.{Heading}
use Rattle.bx_world_events.specs.Causes.{IsThere}
use Rattle.bx_world_events.specs.Refusals.{Seen}
use Rattle.bx_world_events.specs.declared.event.EventError.{EventError}
use Rattle.bx_schedule.specs.Disks.{AreDisks}
use Rattle.bx_schedule.specs.Doing.{IsLine, held_after, noise_of}
use Rattle.bx_schedule.specs.Places.{Place, has_stopped}
use Rattle.bx_schedule.specs.Refusing.{IsRefusal, at_clock}

-- Where a schedule stands between two lines: what its cluster shows, the lanes that are held, the greatest reading of the lines, and what the disks hold.
pub record Snapshot : Type 0 where
  pub seen : Seen
  pub held : set.FinSet lane_cmp
  pub clock : ℕ
  pub disks : Disks

-- of a place, over these disks
abbrev pub snapshot_of : {C : Type 0} → (C → Seen) → Place C → Disks → Snapshot
snapshot_of seen_of place disks = record { seen = seen_of place.cluster; held = place.held; clock = place.clock; disks = disks }

-- Behind its heading a schedule has a cluster of so many nodes and devices, of which all machines are up; nothing was sent, no lane is held, and no clock was read.
pub record IsOpened (nodes devices : ℕ) (at : Snapshot) : Type 0 where
  pub nodes_are : at.seen.nodes ≡ nodes
  pub devices_are : at.seen.devices ≡ devices
  pub post : at.seen.post ≡ []
  pub greatest : at.seen.greatest ≡ 0
  pub up : (who : Actor) → IsThere at.seen who → at.seen.down who ≡ false
  pub held : at.held ≡ set.empty
  pub clock : at.clock ≡ 0

-- A line behind the heading was done: it wasn't refused; its steps led from what was shown to what is shown, each is a part of a run, and none stopped a machine where none may have stopped by
-- itself; the lanes that are held, and the greatest reading, go on by the line; and right behind a step the disk of its machine crashes, with the noise of the line, or is replaced.
pub record Executes (MayStop : Type 0) (line : Line) (parts : List Part) (from to : Snapshot) : Type 0 where
  pub allowed : IsRefusal (at_clock from.clock from.seen) line None
  pub steps : List EventStep
  pub is : IsLine from.held line from.seen steps to.seen
  pub parts_are : parts ≡ parts_with steps []
  pub stopped : has_stopped steps ≡ true → MayStop
  pub held : to.held ≡ held_after line from.held
  pub clock : to.clock ≡ greatest_reading (reading_of line) from.clock
  pub disks : AreDisks (noise_of line) to.seen steps from.disks to.disks

-- A line with its parts was done: the heading opens a cluster, before which there is none; any other line goes on from where a schedule stood.
pub data ComesBy (MayStop : Type 0) (line : Line) (parts : List Part) (before now : Option Snapshot) : Type 0 where
  Opened : (volume nodes devices areas : ℕ) (at : Snapshot) → line ≡ Heading volume nodes devices areas → parts ≡ [] → before ≡ None → now ≡ Some at → IsOpened nodes devices at → ComesBy MayStop line parts before now
  Executed : (from to : Snapshot) → before ≡ Some from → now ≡ Some to → Executes MayStop line parts from to → ComesBy MayStop line parts before now

-- Where a schedule stands, a line is refused, for this cause.
pub record RefusesAt (at : Option Snapshot) (line : Line) (error : EventError) : Type 0 where
  pub here : Snapshot
  pub stands : at ≡ Some here
  pub cause : IsRefusal (at_clock here.clock here.seen) line (Some error)

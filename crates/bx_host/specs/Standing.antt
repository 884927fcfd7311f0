-- How a server stands in a turn, and what a part of it does.
use Rattle.bx_disk.specs.Disks.{Disks}
use Rattle.bx_world_events.specs.Refusals.{Seen, refusal}
use Rattle.bx_world_events.specs.declared.event.Event.{Event}
use Rattle.std.specs.Prelude.{◌≡◌, ℕ, ◌<◌, ◌≤◌, List, ◌++◌, None, Result, Ok, Err, IfErr, ◌⊎◌, true, false}
use Rattle.bx_base.specs.declared.names.Actor.{Actor}
use Rattle.bx_cluster.specs.declared.outcome.Outcome.{Outcome}
use Rattle.bx_disk.specs.Counts.{NoneFalls}
use Rattle.bx_disk.specs.declared.rack.Rack as racks
use Rattle.bx_driver.specs.Machines.{HasDiskNumbers}
use Rattle.bx_history.specs.Parts.{Arrival, Part}
use Rattle.bx_model.specs.declared.tree.Tree.{Tree}
use Rattle.bx_outside.specs.declared.datagram.Datagram.{Datagram}
use Rattle.bx_host.specs.Lost.{is_lost}
use Rattle.bx_host.specs.Steps.{Along, IsAt, Place, EventStep, brought_by, datagrams, owed, parts_with, sent_by, stopped_by, stopped_in}
use Rattle.bx_host.specs.declared.error.HostError.{HostError}
use Rattle.bx_host.specs.declared.error.HostError.TheVariants.{Disk, Link, Write, NoLabel, OutOfMemory, NoMajority, Spent}
use Rattle.bx_host.specs.declared.host.Host.{Host}

-- what is shown, and how many events are left; what led to it from which tree; what is to be sent; which machines faults stopped
pub record HostView : Type 1 where
  pub place : Place
  pub led : Tree → List Part → Type 0
  pub owed : List Datagram
  pub stopped : List Actor

-- Steps that are so were done, in which these datagrams arrived: they lead on in the run, what they answer is to be sent behind what was, and the machines that they stopped are noted.
pub record Does (Is : Place → List EventStep → Place → Type 0) (brings : List Arrival) (reading : ℕ) (old new : HostView) : Type 0 where
  pub steps : List EventStep
  pub is : Is old.place steps new.place
  pub brought : brought_by steps ≡ brings
  pub along : Along (IsAt reading) old.place steps new.place
  pub leads : (tree : Tree) (parts : List Part) → old.led tree parts → new.led tree (parts_with steps parts)
  pub owes : new.owed ≡ old.owed ++ sent_by steps
  pub stops : new.stopped ≡ old.stopped ++ stopped_by steps

abbrev pub AreAny : Place → List EventStep → Place → Type 0
AreAny from steps to = Unit {0}

-- So it goes on. Where it ends in its midst, so much of it was done; both members of a device, or two replicas, have stopped where a disk is the cause; and for
-- want of memory nothing is known.
abbrev pub Ends : {A : Type 0} → Result A HostError → (Place → List EventStep → Place → Type 0) → List Arrival → ℕ → HostView → HostView → Type 0
Ends (Ok _) Is brings reading old new = Does Is brings reading old new
Ends (Err Disk) Is brings reading old new = Does AreAny brings reading old new × (is_lost new.stopped ≡ true)
Ends (Err OutOfMemory) Is brings reading old new = Unit {0}
Ends (Err Link) Is brings reading old new = Does AreAny brings reading old new
Ends (Err Write) Is brings reading old new = Does AreAny brings reading old new
Ends (Err (NoLabel disk)) Is brings reading old new = ⊥
Ends (Err NoMajority) Is brings reading old new = ⊥
Ends (Err (Spent boot)) Is brings reading old new = ⊥

-- What an outcome answers is to be sent, and the machine that it stopped is noted.
pub record IsNoted {C : Type 0} (outcome : Outcome) (old new : Host C) : Type 0 where
  pub owes : owed new.answers ≡ owed old.answers ++ datagrams outcome
  pub stops : new.stopped ≡ old.stopped ++ stopped_in outcome.stopped

-- A rack keeps its sizes and goes on to tell, and forgets no fault.
pub record KeepsRack {R : Type 0} (ra : racks.Ghosts R) (old new : R) : Type 0 where
  pub sizes : (ra.state new).sizes ≡ (ra.state old).sizes
  pub later : NoneFalls (ra.faults old) (ra.faults new) (ra.faults_of old) (ra.faults_of new)
  pub tells : ra.tells old → ra.tells new

-- so many events that start something may still be done
abbrev pub most_events : ℕ
most_events = 4611686018427387904

-- An event may be done now: the turn has one left, the event has its reading, and it isn't refused.
pub record IsNow {C : Type 0} (seen_of : C → Seen) (host : Host C) (event : Event) : Type 0 where
  pub left : 0 < host.left
  pub at : IsAt host.reading (seen_of host.cluster) event
  pub allowed : refusal (seen_of host.cluster) event ≡ None

module _ {C R : Type 0} (seen_of : C → Seen) (room_of : C → List ℕ → Type 0) (led_of : C → Disks → Tree → List Part → Type 0) (ra : racks.Ghosts R) where
  -- It can go on at its reading: it has a node, its disks have numbers, no reading lies beyond, the rack has room, and not too many machines have stopped.
  pub record CanGo (host : Host C) (rack : R) : Type 0 where
    pub node : 0 < (seen_of host.cluster).nodes
    pub disks : HasDiskNumbers (seen_of host.cluster)
    pub clock : (seen_of host.cluster).greatest ≤ host.reading
    pub time : host.reading ≤ 4294967295999
    pub room : room_of host.cluster (ra.state rack).sizes
    pub whole : is_lost host.stopped ≡ false

  abbrev pub standing : Host C → R → HostView
  standing host rack = record {
    place = record { seen = seen_of host.cluster; left = host.left };
    led = λ tree parts. ra.tells rack × led_of host.cluster (ra.state rack) tree parts;
    owed = owed host.answers;
    stopped = host.stopped;
  }

  -- A part of a turn: what it did, and how it ends; a fault of a disk ends it only where one rose in it; its reading stays, and so does the rack but for what it holds.
  pub record Goes {A : Type 0} (result : Result A HostError) (Is : Place → List EventStep → Place → Type 0) (brings : List Arrival) (old : Host C) (before : R) (new : Host C) (after : R) : Type 0 where
    pub ends : Ends result Is brings old.reading (standing old before) (standing new after)
    pub only : IfErr result (λ error. (error ≡ Disk) ⊎ (error ≡ OutOfMemory))
    pub keeps : KeepsRack ra before after
    pub reading : new.reading ≡ old.reading
    pub first : new.first ≡ old.first
    pub ready : new.ready ≡ old.ready
    pub sent : new.sent ≡ old.sent

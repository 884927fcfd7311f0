-- Why an event is refused: the first cause, in their order.
use Rattle.std.specs.Prelude.{ℕ, ◌+◌, ◌/◌, ◌%◌, nat_lt, ◌==◌, not, Bool, false, List, [], ◌∷◌, Option, Some, None, is_none, slice_get, if◌then◌else◌}
use Rattle.std.specs.Bool.{then_some}
use Rattle.std.specs.Option.{option_map, option_or}
use Rattle.bx_base.specs.declared.names.Actor.{Actor}
use Rattle.bx_base.specs.declared.names.Actor.TheVariants.{Node, Replica, Server, Member}
use Rattle.bx_global.specs.declared.state.GlobalState.{GlobalState}
use Rattle.bx_lease.specs.Readings.{back_by}
use Rattle.bx_post.specs.declared.packets.Packet.{Packet}
use Rattle.bx_post.specs.Posts.{Posted, packet_from}
use Rattle.bx_rows.specs.declared.device.DeviceRow.{DeviceRow}
use Rattle.bx_rows.specs.Modes.{only_a, only_b}
use Rattle.bx_world_events.specs.Events.{machine_of, needs_down, needs_up, number_of, reading_of}
use Rattle.bx_world_events.specs.declared.event.Event.{Event}
use Rattle.bx_world_events.specs.declared.event.Event.TheVariants.{Call, Tick, Deliver, Sync, Crash, Restart, Blank}
use Rattle.bx_world_events.specs.declared.event.EventError.{EventError}
use Rattle.bx_world_events.specs.declared.event.EventError.TheVariants.{NoSuchMachine, ClockBack, NoSuchPacket, Up, Down, NothingToSync, StillNeeded}

-- What a cluster shows of itself: how many nodes and devices it has; all its packets; the greatest reading of a clock; which machines are down, and
-- which have a disk with a write that waits for a sync; and the greatest state that any machine has known.
pub record Seen : Type 0 where
  pub nodes : ℕ
  pub devices : ℕ
  pub post : List Posted
  pub greatest : ℕ
  pub down : Actor → Bool
  pub waits : Actor → Bool
  pub most : GlobalState

-- The cluster has a machine: three replicas and two lock servers always, and two members of each device.
abbrev pub is_there : Seen → Actor → Bool
is_there seen (Node n) = nat_lt n seen.nodes
is_there seen (Replica n) = nat_lt n 3
is_there seen (Server n) = nat_lt n 2
is_there seen (Member n) = nat_lt (n / 2) seen.devices

abbrev pub goes_to : Packet → Actor
goes_to packet = packet.to

-- the machine that the packet with a number goes to
abbrev pub receiver : Seen → ℕ → Option Actor
receiver seen number = option_map goes_to (packet_from 1 number seen.post)

-- the device uses the other member alone: A where this is the second one
abbrev pub uses_other : Bool → Option DeviceRow → Bool
uses_other second None = false
uses_other second (Some row) = row.mode == (if second then only_a else only_b)

-- the machine is a member that its device does without
abbrev pub is_spare : GlobalState → Actor → Bool
is_spare state (Node n) = false
is_spare state (Replica n) = false
is_spare state (Server n) = false
is_spare state (Member n) = uses_other (n % 2 == 1) (slice_get state.devices (n / 2))

-- ---- each cause by itself

-- an error where something is named, and there a test passes
abbrev pub told_of : {A : Type 0} → (A → Bool) → (A → EventError) → Option A → Option EventError
told_of test error None = None
told_of test error (Some named) = then_some (test named) (error named)

abbrev pub no_machine : Seen → Event → Option EventError
no_machine seen event = told_of (λ who. not (is_there seen who)) (λ who. NoSuchMachine) (machine_of event)

-- a reading more than 500 ms behind the greatest one
abbrev pub clock_back : Seen → Event → Option EventError
clock_back seen event = told_of (λ reading. nat_lt (reading + 500) seen.greatest) (λ reading. ClockBack (back_by seen.greatest reading)) (reading_of event)

abbrev pub no_packet : Seen → Event → Option EventError
no_packet seen event = told_of (λ number. is_none (packet_from 1 number seen.post)) (λ number. NoSuchPacket number) (number_of event)

abbrev pub up : Seen → Event → Option EventError
up seen event = told_of (λ who. not (seen.down who)) (λ who. Up) (needs_down event)

abbrev pub down : Seen → Event → Option EventError
down seen event = told_of (λ who. seen.down who) (λ who. Down) (needs_up (receiver seen) event)

abbrev pub nothing_to_sync : Seen → Event → Option EventError
nothing_to_sync seen (Sync at) = then_some (not (seen.waits at)) NothingToSync
nothing_to_sync seen (Call reading node client bytes) = None
nothing_to_sync seen (Tick reading at) = None
nothing_to_sync seen (Deliver reading number) = None
nothing_to_sync seen (Crash at) = None
nothing_to_sync seen (Restart reading at) = None
nothing_to_sync seen (Blank at) = None

abbrev pub still_needed : Seen → Event → Option EventError
still_needed seen (Blank at) = then_some (not (is_spare seen.most at)) StillNeeded
still_needed seen (Call reading node client bytes) = None
still_needed seen (Tick reading at) = None
still_needed seen (Deliver reading number) = None
still_needed seen (Sync at) = None
still_needed seen (Crash at) = None
still_needed seen (Restart reading at) = None

-- ---- the first

abbrev pub first_of : List (Option EventError) → Option EventError
first_of [] = None
first_of (cause ∷ causes) = option_or cause (first_of causes)

-- all causes, in their order
abbrev pub causes : Seen → Event → List (Option EventError)
causes seen event = no_machine seen event ∷ clock_back seen event ∷ no_packet seen event ∷ up seen event ∷ down seen event ∷ nothing_to_sync seen event ∷ still_needed seen event ∷ []

-- Why an event is refused, where it is.
abbrev pub refusal : Seen → Event → Option EventError
refusal seen event = first_of (causes seen event)

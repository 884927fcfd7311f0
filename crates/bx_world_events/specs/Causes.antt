-- The causes for which an event may be refused, each by itself, in plain facts; and which is told where several stand.
use Rattle.std.specs.Prelude.{◌≡◌, ℕ, ◌/◌, ◌%◌, ◌<◌, ◌≤◌, ◌==◌, true, false, Some, None, IsSomeAnd, slice_get, if◌then◌else◌}
use Rattle.bx_base.specs.declared.names.Actor.{Actor}
use Rattle.bx_base.specs.declared.names.Actor.TheVariants.{Node, Replica, Server, Member}
use Rattle.bx_global.specs.declared.state.GlobalState.{GlobalState}
use Rattle.bx_lease.specs.Readings.{IsTooFarBack, back_by}
use Rattle.bx_post.specs.Posts.{packet_from}
use Rattle.bx_rows.specs.Modes.{only_a, only_b}
use Rattle.bx_world_events.specs.Events.{machine_of, needs_down, needs_up, number_of, reading_of}
use Rattle.bx_world_events.specs.Refusals.{Seen, receiver}
use Rattle.bx_world_events.specs.declared.event.Event.{Event}
use Rattle.bx_world_events.specs.declared.event.Event.TheVariants.{Sync, Blank}
use Rattle.bx_world_events.specs.declared.event.EventError.{EventError}
use Rattle.bx_world_events.specs.declared.event.EventError.TheVariants.{NoSuchMachine, ClockBack, NoSuchPacket, Up, Down, NothingToSync, StillNeeded, OutOfMemory}

-- the cluster has a machine: so many nodes, three replicas, two lock servers, and members 2d and 2d + 1 of each device d
abbrev pub IsThere : Seen → Actor → Type 0
IsThere seen (Node n) = n < seen.nodes
IsThere seen (Replica n) = n < 3
IsThere seen (Server n) = n < 2
IsThere seen (Member n) = n / 2 < seen.devices

-- A machine is a member, and its device has the mode Only of the other member.
abbrev pub IsSpare : GlobalState → Actor → Type 0
IsSpare state (Node n) = ⊥
IsSpare state (Replica n) = ⊥
IsSpare state (Server n) = ⊥
IsSpare state (Member n) = IsSomeAnd (slice_get state.devices (n / 2)) (λ row. row.mode ≡ (if n % 2 == 1 then only_a else only_b))

-- A cause stands, whatever others do.
abbrev pub IsCause : Seen → Event → EventError → Type 0
IsCause seen event NoSuchMachine = IsSomeAnd (machine_of event) (λ who. IsThere seen who → ⊥)
IsCause seen event (ClockBack by) = IsSomeAnd (reading_of event) (λ reading. IsTooFarBack seen.greatest reading × (by ≡ back_by seen.greatest reading))
IsCause seen event (NoSuchPacket number) = (number_of event ≡ Some number) × (packet_from 1 number seen.post ≡ None)
IsCause seen event Up = IsSomeAnd (needs_down event) (λ who. seen.down who ≡ false)
IsCause seen event Down = IsSomeAnd (needs_up (receiver seen) event) (λ who. seen.down who ≡ true)
IsCause seen event NothingToSync = (at : Actor) × (event ≡ Sync at) × (seen.waits at ≡ false)
IsCause seen event StillNeeded = (at : Actor) × (event ≡ Blank at) × (IsSpare seen.most at → ⊥)
IsCause seen event OutOfMemory = ⊥

-- their order
abbrev pub place_of : EventError → ℕ
place_of NoSuchMachine = 1
place_of (ClockBack by) = 2
place_of (NoSuchPacket number) = 3
place_of Up = 4
place_of Down = 5
place_of NothingToSync = 6
place_of StillNeeded = 7
place_of OutOfMemory = 8

-- It stands, and none that comes before it does.
pub record IsFirst (seen : Seen) (event : Event) (error : EventError) : Type 0 where
  pub stands : IsCause seen event error
  pub first : (other : EventError) → IsCause seen event other → place_of error ≤ place_of other

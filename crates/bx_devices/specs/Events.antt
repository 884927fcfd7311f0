-- What comes to a machine, and what becomes of it.
use Rattle.std.specs.Prelude.{◌≡◌, ◌≢◌, ℕ, ◌*◌, ◌<◌, ◌⊎◌, List, Option, Some, None, if◌then◌else◌}
use Rattle.bx_base.specs.declared.names.Actor.{Actor}
use Rattle.bx_base.specs.declared.names.Actor.TheVariants.{Node, Replica, Server, Member}
use Rattle.bx_disk.specs.Disks.{Disks}
use Rattle.bx_facts.specs.Machines.{is_same}
use Rattle.bx_facts.specs.declared.input.Input.{Input}
use Rattle.bx_facts.specs.declared.input.Input.TheVariants.{Packet, Tick, Synced}
use Rattle.bx_global.specs.declared.change.Change.{Change}
use Rattle.bx_global.specs.declared.state.GlobalState.{GlobalState}
use Rattle.bx_post.specs.declared.packets.Letter.{Letter}
use Rattle.bx_mirror_client.specs.Events as stream_events
use Rattle.bx_mirror_client.specs.Asks.{asked_in}
use Rattle.bx_mirror_client.specs.Streams as streams
use Rattle.bx_mirror_client.specs.Streams.{Streaming, sent_in}
use Rattle.bx_mirror_member.specs.Standing.{MemberView, hearing, learned, new_member, started}
use Rattle.bx_mirror_server.specs.Serving.{Does}
use Rattle.bx_devices.specs.Machines.{DeviceMachines, nodes_of, slot_of, stream_of}

-- a packet for another machine says nothing to this one
abbrev pub input_for : Actor → Input → Input
input_for at (Packet packet reading) = if is_same at packet.now.to then Packet packet reading else Synced
input_for at (Tick reading) = Tick reading
input_for at Synced = Synced

-- Nothing is done.
pub record Passes (o new : DeviceMachines) (change : Option Change) (before after : List Letter) (old now : Disks) : Type 0 where
  pub machines : new ≡ o
  pub hands : change ≡ None
  pub sends : after ≡ before
  pub disks : now ≡ old

-- A stream takes an input; it hands nothing back, and has no disk.
pub record StreamTakes (node : ℕ) (known : GlobalState) (input : Input) (o new : DeviceMachines) (change : Option Change) (before after : List Letter) (old now : Disks) : Type 0 where
  pub takes : stream_events.Takes (stream_of o node) known input (stream_of new node) before after
  pub hands : change ≡ None
  pub disks : now ≡ old

-- A member that is up does.
pub record MemberTakes (Told : Type 0) (n : ℕ) (m : MemberView) (known : GlobalState) (input : Input) (new : DeviceMachines) (change : Option Change) (before after : List Letter) (old now : Disks) : Type 0 where
  pub member : MemberView
  pub is : slot_of new n ≡ Some member
  pub does : Does Told known input m member change before after old now

-- One that isn't up does nothing.
pub record IsAway (n : ℕ) (new : DeviceMachines) (change : Option Change) (before after : List Letter) (old now : Disks) : Type 0 where
  pub is : slot_of new n ≡ None
  pub hands : change ≡ None
  pub sends : after ≡ before
  pub disks : now ≡ old

abbrev pub SlotTakes : Type 0 → ℕ → Option MemberView → GlobalState → Input → DeviceMachines → Option Change → List Letter → List Letter → Disks → Disks → Type 0
SlotTakes Told n None known input new change before after old now = IsAway n new change before after old now
SlotTakes Told n (Some m) known input new change before after old now = MemberTakes Told n m known input new change before after old now

-- One machine takes an input, as a stream or a member does; others have nothing to do with devices.
abbrev pub TakesAt : Type 0 → Actor → GlobalState → Input → DeviceMachines → DeviceMachines → Option Change → List Letter → List Letter → Disks → Disks → Type 0
TakesAt Told (Node node) known input o new change before after old now = StreamTakes node known input o new change before after old now
TakesAt Told (Replica n) known input o new change before after old now = Passes o new change before after old now
TakesAt Told (Server n) known input o new change before after old now = Passes o new change before after old now
TakesAt Told (Member n) known input o new change before after old now = SlotTakes Told n (slot_of o n) known input new change before after old now

-- What a stream had out stays, or goes: its read with its session alone.
pub record StreamGoes (c new : Streaming) : Type 0 where
  pub out : (sent_in new.out ≡ None) ⊎ (sent_in new.out ≡ sent_in c.out)
  pub asks : (new.session ≢ c.session) ⊎ (asked_in new.asks ≡ asked_in c.asks)
  pub new_session : new.session ≢ c.session → asked_in new.asks ≡ None

-- A disk failed: its member knows the state, and all else is as it was.
abbrev pub SlotFaults : GlobalState → Option MemberView → Option MemberView → Type 0
SlotFaults known None new = ⊥
SlotFaults known (Some m) new = new ≡ Some (learned known m)

abbrev pub FaultsAt : Actor → GlobalState → DeviceMachines → DeviceMachines → Type 0
FaultsAt (Node node) known o new = ⊥
FaultsAt (Replica n) known o new = ⊥
FaultsAt (Server n) known o new = ⊥
FaultsAt (Member n) known o new = SlotFaults known (slot_of o n) (slot_of new n)

-- One machine stops.
abbrev pub StopsAt : Actor → DeviceMachines → DeviceMachines → Type 0
StopsAt (Node node) o new = stream_of new node ≡ streams.stopped (stream_of o node)
StopsAt (Replica n) o new = new ≡ o
StopsAt (Server n) o new = new ≡ o
StopsAt (Member n) o new = slot_of new n ≡ None

-- One machine starts again, where it is there.
abbrev pub RestartsAt : Actor → ℕ → ℕ → DeviceMachines → DeviceMachines → Type 0
RestartsAt (Node node) boot reading o new = node < nodes_of o → stream_of new node ≡ streams.restarted boot (stream_of o node)
RestartsAt (Replica n) boot reading o new = new ≡ o
RestartsAt (Server n) boot reading o new = new ≡ o
RestartsAt (Member n) boot reading o new = n < 2 * o.made.devices → slot_of new n ≡ Some (hearing reading (started boot (new_member n o.made)))

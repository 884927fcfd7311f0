-- All machines of mirrored devices: two members for each device, and a stream for each node.
use Rattle.std.specs.Prelude.{◌≡◌, ◌≢◌, ℕ, ◌-◌, ◌*◌, ◌<◌, ◌≤◌, Bool, false, List, [], length, nat_lt, slice_index_or, Option, Some, None, if◌then◌else◌}
use Rattle.bx_base.specs.declared.names.Actor.{Actor}
use Rattle.bx_base.specs.declared.names.Actor.TheVariants.{Node, Replica, Server, Member}
use Rattle.bx_facts.specs.Disks.{wanted_by}
use Rattle.bx_facts.specs.Machines.{disk_of}
use Rattle.bx_facts.specs.Writes.{Made, store_room}
use Rattle.bx_global.specs.declared.state.GlobalState.{GlobalState}
use Rattle.bx_mirror_client.specs.Streams as streams
use Rattle.bx_mirror_client.specs.Streams.{Streaming}
use Rattle.bx_mirror_member.specs.Standing.{MemberView, new_member}

-- members that aren't up aren't there
pub record DeviceMachines : Type 0 where
  pub made : Made
  pub members : List (Option MemberView)
  pub streams : List Streaming

abbrev pub machines : ℕ → ℕ → ℕ → ℕ → List (Option MemberView) → List Streaming → DeviceMachines
machines volume nodes devices areas members streams = record { made = record { volume = volume; nodes = nodes; devices = devices; areas = areas }; members = members; streams = streams }

abbrev pub made_of : DeviceMachines → Made
made_of o = o.made

abbrev pub nodes_of : DeviceMachines → ℕ
nodes_of o = o.made.nodes

-- the stream of a node; one that isn't there knows nothing
abbrev pub no_stream : ℕ → Streaming
no_stream node = record { node = node; boot = 0; sequence = 0; tag = 0; session = None; rows = []; out = None; asks = None }

abbrev pub stream_of : DeviceMachines → ℕ → Streaming
stream_of o node = slice_index_or o.streams node (no_stream node)

-- a member, where it is up; one that isn't knows nothing
abbrev pub slot_of : DeviceMachines → ℕ → Option MemberView
slot_of o n = slice_index_or o.members n None

abbrev pub or_new : Made → ℕ → Option MemberView → MemberView
or_new made n None = new_member n made
or_new made n (Some m) = m

abbrev pub member_of : DeviceMachines → ℕ → MemberView
member_of o n = or_new o.made n (slot_of o n)

-- A member is the one of its number, of this volume. Its current piece begins within the device, and where no sync is owed nothing is.
pub record IsOwn (made : Made) (n : ℕ) (m : MemberView) : Type 0 where
  pub number : m.number ≡ n
  pub made_is : m.made ≡ made
  pub place : m.place < store_room made
  pub quiet : m.due ≡ false → m.owed ≡ []

-- There are two members for each device, 1 to 4, and a stream for each node.
pub record IsShape (o : DeviceMachines) : Type 0 where
  pub least_devices : 1 ≤ o.made.devices
  pub most_devices : o.made.devices ≤ 4
  pub least_areas : 1 ≤ o.made.areas
  pub most_areas : o.made.areas ≤ 64
  pub members : length o.members ≡ 2 * o.made.devices
  pub streams : length o.streams ≡ o.made.nodes
  pub each : (n : ℕ) (m : MemberView) → slot_of o n ≡ Some m → IsOwn o.made n m

-- They are new ones of a volume, in a cluster that begins with a state: all members are up.
pub record AreMade (made : Made) (s : GlobalState) (o : DeviceMachines) : Type 0 where
  pub made_is : o.made ≡ made
  pub members : (n : ℕ) → n < 2 * made.devices → slot_of o n ≡ Some (new_member n made)
  pub streams : (node : ℕ) → node < made.nodes → stream_of o node ≡ streams.made node s

-- Every other machine is as it was.
pub record OnlyMachine (who : Actor) (old new : DeviceMachines) : Type 0 where
  pub made : new.made ≡ old.made
  pub members : (n : ℕ) → who ≢ Member n → slot_of new n ≡ slot_of old n
  pub streams : (node : ℕ) → who ≢ Node node → stream_of new node ≡ stream_of old node

-- No member that was away is up.
pub record StaysAway (old new : DeviceMachines) : Type 0 where
  pub away : (n : ℕ) → slot_of old n ≡ None → slot_of new n ≡ None

-- ---- what is owed, and what is needed of disks

abbrev pub due_in : Option MemberView → Bool
due_in None = false
due_in (Some m) = m.due

abbrev pub due_at : DeviceMachines → Actor → Bool
due_at o (Node n) = false
due_at o (Replica n) = false
due_at o (Server n) = false
due_at o (Member n) = due_in (slot_of o n)

-- a member of the volume that is up needs all its sectors
abbrev pub need_in : ℕ → Option MemberView → ℕ
need_in room None = 0
need_in room (Some m) = room

abbrev pub slot_needs : DeviceMachines → ℕ → ℕ
slot_needs o n = if nat_lt n (2 * o.made.devices) then need_in (store_room o.made) (slot_of o n) else 0

abbrev pub needs_of : DeviceMachines → ℕ → ℕ
needs_of o disk = if nat_lt disk 3 then 0 else slot_needs o (disk - 3)

-- and one that starts will
abbrev pub wanted_in : Made → Actor → ℕ → ℕ
wanted_in made (Node n) disk = 0
wanted_in made (Replica n) disk = 0
wanted_in made (Server n) disk = 0
wanted_in made (Member n) disk = wanted_by (disk_of (Member n)) (store_room made) disk

abbrev pub wanted_of : DeviceMachines → Actor → ℕ → ℕ
wanted_of o who disk = wanted_in o.made who disk

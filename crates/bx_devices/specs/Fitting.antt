-- How all machines of mirrored devices fit what was done with them.
use Rattle.std.specs.Prelude.{◌≡◌, ℕ, ◌*◌, ◌<◌, false, List, IsSome, Option}
use Rattle.bx_base.specs.declared.names.Actor.TheVariants.{Member}
use Rattle.bx_disk.specs.Disks.{Disks}
use Rattle.bx_facts.specs.Writes.{Asked, Sent, StorePast}
use Rattle.bx_mirror_client.specs.Asks.{answer_in, asked_in}
use Rattle.bx_mirror_client.specs.Streams.{sent_in}
use Rattle.bx_mirror_cluster.specs.Fitting.{IsSettledOn, Keeps, Parts, StandsOn, will_read_by}
use Rattle.bx_devices.specs.Machines.{DeviceMachines, IsShape, made_of, member_of, slot_of, stream_of}

abbrev pub parts_of : DeviceMachines → Parts
parts_of o = record { made = made_of o; members = member_of o; nodes = stream_of o }

-- Members and streams fit the past together; each member of the volume that isn't down is there, and each stream is its node's.
pub record IsFitting (o : DeviceMachines) (x : Disks) (past : StorePast) : Type 0 where
  pub fits : Keeps (parts_of o) x past
  pub shape : IsShape o
  pub there : (n : ℕ) → n < 2 * o.made.devices → past.told.down (Member n) ≡ false → IsSome (slot_of o n)
  pub itself : (n : ℕ) → (stream_of o n).node ≡ n

-- what is out, as a store tells it
abbrev pub own_of : DeviceMachines → ℕ → Option ℕ
own_of o node = (stream_of o node).session

abbrev pub out_of : DeviceMachines → ℕ → Option Sent
out_of o node = sent_in (stream_of o node).out

abbrev pub asked_of : DeviceMachines → ℕ → Option Asked
asked_of o node = asked_in (stream_of o node).asks

abbrev pub answer_of : DeviceMachines → ℕ → Option (List ℕ)
answer_of o node = answer_in (stream_of o node).asks

-- and what is promised of sectors
abbrev pub Settled : DeviceMachines → Disks → StorePast → ℕ → ℕ → List ℕ → Type 0
Settled o x past device sector content = IsSettledOn (parts_of o) x past device sector content

abbrev pub Stands : DeviceMachines → Disks → StorePast → ℕ → ℕ → List ℕ → ℕ → Type 0
Stands o x past device sector content index = StandsOn (parts_of o) x past device sector content index

abbrev pub WillRead : DeviceMachines → Disks → StorePast → ℕ → ℕ → List ℕ → Type 0
WillRead o x past node sector content = will_read_by (stream_of o node).asks (parts_of o) x past node sector content

-- What an event of a machine leaves of the disks.
use Rattle.std.specs.Prelude.{◌≡◌, ℕ, ◌+◌, OnOk, Option, Some, None, Result}
use Rattle.bx_base.specs.declared.names.Actor.{Actor}
use Rattle.bx_base.specs.declared.names.Actor.TheVariants.{Node, Replica, Server, Member}
use Rattle.bx_calls.specs.Calls.{HasSure, KeepsAll, KeepsSure, LeavesOnly}
use Rattle.bx_calls.specs.Regions.{IsSynced}
use Rattle.bx_disk.specs.Disks.{IsImage}
use Rattle.bx_disk.specs.declared.fault.RackError.{RackError}
use Rattle.bx_disk.specs.declared.rack.Rack as racks
use Rattle.bx_facts.specs.Writes.{Made, label_on}
use Rattle.bx_facts.specs.declared.input.Input.{Input}
use Rattle.bx_global.specs.declared.state.GlobalState.{GlobalState}
use Rattle.bx_layout.specs.Labels.{SpellsLabel}
use Rattle.bx_layout.specs.declared.label.Label.{Label}
use Rattle.bx_mirror_member.specs.Standing.{MemberView, disk_in, learned, room_in}
use Rattle.bx_mirror_server.specs.Serving.{BringsOnly}
use Rattle.bx_mirror_server.specs.Working.{Works}
use Rattle.bx_devices.specs.Machines.{DeviceMachines, slot_of}

-- A member that is up works on its own disk; nothing else touches one.
abbrev pub DisksIn : {R : Type 0} → racks.Ghosts R → R → R → GlobalState → Input → Option MemberView → Type 0
DisksIn rack old new known input None = new ≡ old
DisksIn rack old new known input (Some m) = Works rack old new (disk_in m) (room_in m) (BringsOnly (learned known m) input)

abbrev pub DisksAt : {R : Type 0} → racks.Ghosts R → R → R → Actor → GlobalState → Input → DeviceMachines → Type 0
DisksAt rack old new (Node n) known input o = new ≡ old
DisksAt rack old new (Replica n) known input o = new ≡ old
DisksAt rack old new (Server n) known input o = new ≡ old
DisksAt rack old new (Member n) known input o = DisksIn rack old new known input (slot_of o n)

-- A disk gets its label, written only where it has another or none, and is synced.
pub record Labels {R A : Type 0} (rack : racks.Ghosts R) (old new : R) (label : Label) (disk : ℕ) (result : Result A RackError) : Type 0 where
  pub synced : rack.tells old → OnOk result (IsSynced (rack.state new) disk)
  pub label_is : rack.tells old → OnOk result (SpellsLabel label ((rack.state new).reads disk 0))
  pub had_label : rack.tells old → SpellsLabel label ((rack.state old).reads disk 0) → KeepsAll (rack.state old) (rack.state new) disk
  pub keeps : rack.tells old → KeepsSure (rack.state old) (rack.state new) disk 0 1
  pub any_moment : rack.tells old → LeavesOnly (rack.moment old) (rack.moment new) (rack.left_since old) (rack.left_since new) (HasSure (rack.state old) disk 0 1)
  pub had_moment : rack.tells old → SpellsLabel label ((rack.state old).reads disk 0) → LeavesOnly (rack.moment old) (rack.moment new) (rack.left_since old) (rack.left_since new) (IsImage (rack.state old))

abbrev pub LabelsAt : {R A : Type 0} → racks.Ghosts R → R → R → Made → Actor → Result A RackError → Type 0
LabelsAt rack old new made (Node n) result = new ≡ old
LabelsAt rack old new made (Replica n) result = new ≡ old
LabelsAt rack old new made (Server n) result = new ≡ old
LabelsAt rack old new made (Member n) result = Labels rack old new (label_on made (3 + n)) (3 + n) result

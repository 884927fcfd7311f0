-- What is read off the disks of a volume before its blocks.
use Rattle.std.specs.Prelude.{◌≡◌, ℕ, ◌↔◌, ◌⊎◌, false, List, length, slice_get, Some}
use Rattle.bx_base.specs.declared.names.Point.{Point}
use Rattle.bx_disk.specs.Disks.{Image, Disks}
use Rattle.bx_rows.specs.declared.device.DeviceRow.{DeviceRow}
use Rattle.bx_rows.specs.declared.session.SessionRow.{SessionRow}
use Rattle.bx_rows.specs.Modes.{IsReadAtA}
use Rattle.bx_global.specs.declared.state.GlobalState.{GlobalState}
use Rattle.bx_layout.specs.declared.label.Label.{Label}
use Rattle.bx_views.specs.Truths.{Truth}
use Rattle.bx_volume.specs.Images.{IsFirstLabel}
use Rattle.bx_volume.specs.Overlay.{Logs, IsOverlaidTruth}
use Rattle.bx_volume.specs.Records.{Logged}
use Rattle.bx_overlay.specs.declared.error.AuditError.{AuditError}
use Rattle.bx_overlay.specs.declared.error.AuditError.TheVariants.{NoLabel}
use Rattle.bx_logs.specs.declared.members.Members.{Members}
use Rattle.bx_overlay.specs.declared.volume_disks.VolumeDisks.{VolumeDisks}
use Rattle.bx_logs.specs.Members.{AreThere, held_by, member_in}
use Rattle.bx_logs.specs.Logs.{AreLogs, points_in}
use Rattle.bx_logs.specs.Newest.{AreAgreed, AreNewest, Newest}
use Rattle.bx_overlay.specs.Refusals.{AreAccepted, HasNoLabel, RefusesLogs, RefusesMembers}

-- the members that reads go to, of a volume with this label and these devices
pub record AreMembers (first : Label) (rows : List DeviceRow) (members : Members) : Type 0 where
  pub devices : members.devices ≡ first.devices
  pub areas : members.areas ≡ first.areas
  pub count : length members.seconds ≡ 4
  pub sources : (device : ℕ) (row : DeviceRow) → slice_get rows device ≡ Some row → (member_in members.seconds device ≡ false) ↔ IsReadAtA row.mode

-- the newest blocks of the logs, which agree, and the points of their records
pub record AreOverlay (image : Image) (members : Members) (sessions : List SessionRow) (newest : List Newest) (doubt : List Point) : Type 0 where
  pub logs : List (List Logged)
  pub are : AreLogs image members sessions logs
  pub of : AreNewest logs newest
  pub agreed : AreAgreed newest 8
  pub points : doubt ≡ points_in logs

-- what was read is so
pub record IsRead (disks : Disks) (state : GlobalState) (read : VolumeDisks) : Type 0 where
  pub is_first : IsFirstLabel disks.sizes disks.reads read.first
  pub accepted : AreAccepted disks read.first state.devices
  pub members : AreMembers read.first state.devices read.members
  pub there : AreThere disks.sizes read.members
  pub overlay : AreOverlay disks.reads read.members state.sessions read.newest read.doubt

-- the disks of a volume with this first label are refused
pub record IsRefusedAs (disks : Disks) (state : GlobalState) (error : AuditError) : Type 0 where
  pub first : Label
  pub is_first : IsFirstLabel disks.sizes disks.reads first
  pub members : RefusesMembers disks first state.devices error

-- their logs are
pub record HasWrongLogs (disks : Disks) (state : GlobalState) (error : AuditError) : Type 0 where
  pub first : Label
  pub members : Members
  pub is_first : IsFirstLabel disks.sizes disks.reads first
  pub accepted : AreAccepted disks first state.devices
  pub are : AreMembers first state.devices members
  pub there : AreThere disks.sizes members
  pub logs : RefusesLogs disks.reads members state.sessions error

-- Why disks are refused in this state: no disk has a label, which is told of disk 0; or else their members are refused, or else their logs.
abbrev pub IsRefused : Disks → GlobalState → AuditError → Type 0
IsRefused disks state error = ((error ≡ NoLabel 0) × HasNoLabel disks) ⊎ (IsRefusedAs disks state error ⊎ HasWrongLogs disks state error)

-- the members that were read hold this truth, by some logs
pub record HoldsTruth (image : Image) (state : GlobalState) (read : VolumeDisks) (truth : Truth) : Type 0 where
  pub logs : Logs
  pub is_truth : IsOverlaidTruth (held_by image read.members) read.first.devices read.first.areas state.sessions logs truth

-- Why disks are refused.
use Rattle.std.specs.Prelude.{◌≡◌, ◌≢◌, ◌⊎◌, ℕ, List, length, slice_get, Some, Result, Ok, Err}
use Rattle.bx_disk.specs.Disks.{Image, Disks}
use Rattle.bx_disk.specs.declared.fault.RackError.{RackError}
use Rattle.bx_disk.specs.declared.fault.RackError.TheVariants.{Fault, OutOfMemory as OutOfRackMemory}
use Rattle.bx_rows.specs.declared.device.DeviceRow.{DeviceRow}
use Rattle.bx_rows.specs.declared.session.SessionRow.{SessionRow}
use Rattle.bx_layout.specs.declared.label.Label.{Label}
use Rattle.bx_volume.specs.Images.{IsOwnLabel}
use Rattle.bx_volume.specs.Records.{Logged}
use Rattle.bx_logs.specs.bx_homes.specs.Sources.{AreLabelled, IsFirstUnlabelled, HasSource, IsFirstAbsent}
use Rattle.bx_overlay.specs.declared.error.AuditError.{AuditError}
use Rattle.bx_overlay.specs.declared.error.AuditError.TheVariants.{DiskFault, NoLabel, NoMajority, NoSource, Torn, OutOfMemory}
use Rattle.bx_logs.specs.declared.members.Members.{Members}
use Rattle.bx_logs.specs.Logs.{AreLogs, HaveNoLogs}
use Rattle.bx_logs.specs.Newest.{AreNewest, IsClash, Newest}

-- how a rack's call that fails makes an audit fail
abbrev pub audit_error : RackError → AuditError
audit_error Fault = DiskFault
audit_error OutOfRackMemory = OutOfMemory

-- a disk failed, or memory ran out
abbrev pub IsBreak : AuditError → Type 0
IsBreak error = (error ≡ DiskFault) ⊎ (error ≡ OutOfMemory)

-- a fact that holds unless a disk failed
abbrev pub UnlessFault : {A : Type 0} → Result A AuditError → Type 0 → Type 0
UnlessFault (Ok value) P = P
UnlessFault (Err DiskFault) P = Unit {0}
UnlessFault (Err (NoLabel disk)) P = P
UnlessFault (Err NoMajority) P = P
UnlessFault (Err (NoSource device)) P = P
UnlessFault (Err (Torn block found wanted)) P = P
UnlessFault (Err OutOfMemory) P = P

-- ---- labels and members

-- no disk has a label of its own
abbrev pub HasNoLabel : Disks → Type 0
HasNoLabel disks = (disk : ℕ) (label : Label) → IsOwnLabel disks.sizes disks.reads disk label → ⊥

-- the rack has a disk for each member that reads go to
abbrev pub HaveSources : Disks → List DeviceRow → Type 0
HaveSources disks rows = (device : ℕ) (row : DeviceRow) → slice_get rows device ≡ Some row → HasSource disks.sizes device row

-- why the members of a volume with this first label are refused: there aren't as many devices, or one has no source, or, where each
-- has one, some source member has no label
abbrev pub RefusesMembers : Disks → Label → List DeviceRow → AuditError → Type 0
RefusesMembers disks first rows DiskFault = ⊥
RefusesMembers disks first rows (NoLabel disk) = (length rows ≡ first.devices) × HaveSources disks rows × IsFirstUnlabelled disks.sizes disks.reads first rows disk
RefusesMembers disks first rows NoMajority = length rows ≢ first.devices
RefusesMembers disks first rows (NoSource device) = (length rows ≡ first.devices) × IsFirstAbsent disks.sizes rows device
RefusesMembers disks first rows (Torn block found wanted) = ⊥
RefusesMembers disks first rows OutOfMemory = ⊥

-- what members of a volume have that aren't refused
pub record AreAccepted (disks : Disks) (first : Label) (rows : List DeviceRow) : Type 0 where
  pub count : length rows ≡ first.devices
  pub sources : HaveSources disks rows
  pub labelled : (device : ℕ) (row : DeviceRow) → slice_get rows device ≡ Some row → AreLabelled disks.sizes disks.reads first device row

-- ---- logs

-- a log isn't there, which is told by a number that is no block's
pub record IsLogGap (image : Image) (members : Members) (sessions : List SessionRow) (block found wanted : ℕ) : Type 0 where
  pub none : HaveNoLogs image members sessions
  pub block_is : block ≡ 65536
  pub found_is : found ≡ 0
  pub wanted_is : wanted ≡ 0

-- two logs have different blocks with a number
pub record IsLogClash (image : Image) (members : Members) (sessions : List SessionRow) (block found wanted : ℕ) : Type 0 where
  pub logs : List (List Logged)
  pub newest : List Newest
  pub are : AreLogs image members sessions logs
  pub of : AreNewest logs newest
  pub clash : IsClash newest block found
  pub wanted_is : wanted ≡ found

-- why the logs of a volume are refused
abbrev pub RefusesLogs : Image → Members → List SessionRow → AuditError → Type 0
RefusesLogs image members sessions DiskFault = ⊥
RefusesLogs image members sessions (NoLabel disk) = ⊥
RefusesLogs image members sessions NoMajority = ⊥
RefusesLogs image members sessions (NoSource device) = ⊥
RefusesLogs image members sessions (Torn block found wanted) = IsLogGap image members sessions block found wanted ⊎ IsLogClash image members sessions block found wanted
RefusesLogs image members sessions OutOfMemory = ⊥

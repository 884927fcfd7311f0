-- The disks of the members that a volume is read from.
use Rattle.std.specs.Prelude.{◌≡◌, ℕ, ◌<◌, ◌≤◌, ◌↔◌, Bool, false, List, length, slice_index, slice_get, Some}
use Rattle.bx_disk.specs.Disks.{Image}
use Rattle.bx_layout.specs.declared.label.Label.{Label}
use Rattle.bx_layout.specs.Labels.{IsLabel}
use Rattle.bx_places.specs.Places.{disk_count, disk_sectors}
use Rattle.bx_rows.specs.declared.device.DeviceRow.{DeviceRow}
use Rattle.bx_rows.specs.Modes.{IsReadAtA, IsSource}
use Rattle.bx_volume.specs.Images.{IsLabelled, member_disk}

-- a label names a disk of its volume that is as long as it says
pub record Fits (sizes : List ℕ) (disk : ℕ) (label : Label) : Type 0 where
  pub is : IsLabel label
  pub names : label.disk ≡ disk
  pub there : disk < disk_count label.devices
  pub long_enough : disk_sectors label.devices label.areas disk ≤ slice_index sizes disk

-- a disk is as long as the disk of this number on the volume that the label is of
abbrev pub IsLongEnough : List ℕ → Label → ℕ → Type 0
IsLongEnough sizes first disk = disk_sectors first.devices first.areas disk ≤ slice_index sizes disk

-- the disk of each source member of a device is
abbrev pub HaveRoom : List ℕ → Label → ℕ → DeviceRow → Type 0
HaveRoom sizes first device row = (member : Bool) → IsSource row.mode member → IsLongEnough sizes first (member_disk device member)

-- each source member of a device has a label of the volume
abbrev pub AreLabelled : List ℕ → Image → Label → ℕ → DeviceRow → Type 0
AreLabelled sizes image first device row = (member : Bool) → IsSource row.mode member → IsLabelled sizes image first (member_disk device member)

-- The least disk, device by device and A before B, of a source member without a label of the volume.
pub record IsFirstUnlabelled (sizes : List ℕ) (image : Image) (first : Label) (rows : List DeviceRow) (disk : ℕ) : Type 0 where
  pub device : ℕ
  pub row : DeviceRow
  pub member : Bool
  pub there : slice_get rows device ≡ Some row
  pub source : IsSource row.mode member
  pub disk_is : disk ≡ member_disk device member
  pub without : IsLabelled sizes image first disk → ⊥
  pub before : (d : ℕ) (other : DeviceRow) → d < device → slice_get rows d ≡ Some other → AreLabelled sizes image first d other
  pub before_it : IsSource row.mode false → (IsLabelled sizes image first (member_disk device false) → ⊥) → member ≡ false

-- the rack has a disk of the member of a device that reads go to
abbrev pub HasSource : List ℕ → ℕ → DeviceRow → Type 0
HasSource sizes device row = (member : Bool) → ((member ≡ false) ↔ IsReadAtA row.mode) → member_disk device member < length sizes

-- the least device of which it has none
pub record IsFirstAbsent (sizes : List ℕ) (rows : List DeviceRow) (device : ℕ) : Type 0 where
  pub row : DeviceRow
  pub there : slice_get rows device ≡ Some row
  pub absent : HasSource sizes device row → ⊥
  pub before : (d : ℕ) (other : DeviceRow) → d < device → slice_get rows d ≡ Some other → HasSource sizes d other

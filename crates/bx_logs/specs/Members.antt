-- The members that the devices of a volume are read off.
use Rattle.std.specs.Prelude.{◌≡◌, ℕ, ◌<◌, ◌≤◌, Bool, false, List, length, slice_index, slice_get, unwrap_or}
use Rattle.bx_disk.specs.Disks.{Image}
use Rattle.bx_places.specs.Places.{IsVolume, member_sectors}
use Rattle.bx_homes.specs.bx_volume.specs.Images.{by_device, devices_of, member_disk}
use Rattle.bx_logs.specs.declared.members.Members.{Members}

-- the member of a device: A (false) or B (true)
abbrev pub member_in : List Bool → ℕ → Bool
member_in seconds device = unwrap_or (slice_get seconds device) false

-- what the devices hold, read off these members
abbrev pub held_by : Image → Members → Image
held_by image members = devices_of image (by_device (member_in members.seconds))

-- the disk of a device's member
abbrev pub disk_of : Members → ℕ → ℕ
disk_of members device = member_disk device (member_in members.seconds device)

-- a disk stands behind each device's member, with room for what is on a device
pub record AreThere (sizes : List ℕ) (members : Members) : Type 0 where
  pub volume : IsVolume members.devices members.areas
  pub count : length members.seconds ≡ 4
  pub disk : (device : ℕ) → device < members.devices → disk_of members device < length sizes
  pub room : (device : ℕ) → device < members.devices → member_sectors members.devices members.areas ≤ slice_index sizes (disk_of members device)

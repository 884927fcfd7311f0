-- What the disks of a volume hold while it is made, and when it is made.
use Rattle.std.specs.Prelude.{◌≡◌, ℕ, ◌<◌, ◌≤◌, ◌==◌, ◌&&◌, nat_lt, if◌then◌else◌, Bool, false, List, length, slice_index}
use Rattle.bx_disk.specs.Disks.{Image, Disks, zeros}
use Rattle.bx_base.specs.Writing.{padded}
use Rattle.bx_layout.specs.declared.block.Block.{Block}
use Rattle.bx_layout.specs.declared.label.Label.{Label}
use Rattle.bx_layout.specs.Labels.{label_text}
use Rattle.bx_places.specs.Places.{IsBlock, IsVolume, block_area, block_slot, disk_count, disk_sectors}
use Rattle.bx_truth.specs.Opening.{area_block, free_block, opening_truth}
use Rattle.bx_views.specs.Truths.{Truth}
use Rattle.bx_volume.specs.Images.{devices_of}
use Rattle.bx_volume.specs.Overlay.{IsHome}

-- Both members of each device have each block of the truth in its home.
pub record HoldsBlocks (image : Image) (devices areas : ℕ) (truth : Truth) : Type 0 where
  pub home : (member : Bool) (at : ℕ) → IsBlock areas at → IsHome (devices_of image (λ device sector. member)) devices at (truth at)

-- a truth with another block in a place
abbrev pub with_chunk : Truth → ℕ → Block → Truth
with_chunk truth at block other = if other == at then block else truth other

-- a volume of which so many areas have their own blocks, and nothing else is in use
abbrev pub areas_truth : ℕ → Truth
areas_truth done at = if (block_slot at == 960) && nat_lt (block_area at) done then area_block (block_area at) else free_block

-- The first sectors of each disk, but for its label, are zeros: those of the logs on a member's disk, and all those of a replica's.
pub record HasNoRecords (sizes : List ℕ) (image : Image) : Type 0 where
  pub zero : (disk sector : ℕ) → 1 ≤ sector → sector < 9345 → sector < slice_index sizes disk → image disk sector ≡ zeros

-- The first sectors of each member's disk, but for its label, are zeros: those of the logs.
pub record HasNoLogs (sizes : List ℕ) (image : Image) : Type 0 where
  pub zero : (disk sector : ℕ) → 3 ≤ disk → 1 ≤ sector → sector < 9345 → sector < slice_index sizes disk → image disk sector ≡ zeros

-- The first sectors of each disk stay, those of labels and logs; those behind the labels stay.
pub record KeepsFront (old new : Disks) : Type 0 where
  pub reads : (disk sector : ℕ) → sector < 9345 → new.reads disk sector ≡ old.reads disk sector

pub record KeepsBehind (old new : Disks) : Type 0 where
  pub reads : (disk sector : ℕ) → 1 ≤ sector → new.reads disk sector ≡ old.reads disk sector

-- the label of a disk of the volume that this label names
abbrev pub label_of : Label → ℕ → Label
label_of first disk = record { volume = first.volume; disk = disk; devices = first.devices; areas = first.areas }

-- so many disks have their labels
pub record HasLabels (image : Image) (first : Label) (disks : ℕ) : Type 0 where
  pub each : (disk : ℕ) → disk < disks → image disk 0 ≡ padded 512 (label_text (label_of first disk))

-- each disk of a volume is as long as it must be
pub record HasSizes (sizes : List ℕ) (devices areas : ℕ) : Type 0 where
  pub count : length sizes ≡ disk_count devices
  pub each : (disk : ℕ) → disk < disk_count devices → slice_index sizes disk ≡ disk_sectors devices areas disk

-- so many devices and areas are a volume's, and there are disks of the sizes that it has
pub record FitsVolume (disks : List ℕ) (devices areas : ℕ) : Type 0 where
  pub volume : IsVolume devices areas
  pub sizes : HasSizes disks devices areas

-- A volume that was just made, and nothing but that: labels, the blocks of the opening truth, zeros in the logs and on the disks of
-- replicas, and all of it sure.
pub record IsFormatted (disks : Disks) (first : Label) : Type 0 where
  pub sizes : HasSizes disks.sizes first.devices first.areas
  pub sure : (d s : ℕ) → disks.unsure d s ≡ false
  pub labels : HasLabels disks.reads first (disk_count first.devices)
  pub blocks : HoldsBlocks disks.reads first.devices first.areas opening_truth
  pub none : HasNoRecords disks.sizes disks.reads

-- The same of a volume whatever stands behind the labels of its replicas.
pub record IsMade (disks : Disks) (first : Label) : Type 0 where
  pub sizes : HasSizes disks.sizes first.devices first.areas
  pub sure : (d s : ℕ) → disks.unsure d s ≡ false
  pub labels : HasLabels disks.reads first (disk_count first.devices)
  pub blocks : HoldsBlocks disks.reads first.devices first.areas opening_truth
  pub none : HasNoLogs disks.sizes disks.reads

-- Regions of disks: a disk, its first sector, and how many sectors. `disk 0 0` has no sector.
use Rattle.std.specs.Prelude.{◌≡◌, ◌≢◌, ℕ, ◌+◌, ◌/◌, ◌<◌, ◌≤◌, true, false, List, length}
use Rattle.bx_disk.specs.Disks.{Image, Disks, is_within, sector_of, zeros}

-- Each sector outside the region has P: it is on another disk, or before the region, or behind it.
pub record EachOutside (disk sector count : ℕ) (P : ℕ → ℕ → Type 0) : Type 0 where
  pub elsewhere : (d s : ℕ) → d ≢ disk → P d s
  pub before : (s : ℕ) → s < sector → P disk s
  pub behind : (s : ℕ) → sector + count ≤ s → P disk s

-- The first region is on the disk of the second, and each of its sectors is one of that one's.
pub record IsInside (disk sector count in_disk in_sector in_count : ℕ) : Type 0 where
  pub same : disk ≡ in_disk
  pub each : (d s : ℕ) → is_within disk sector count d s ≡ true → is_within in_disk in_sector in_count d s ≡ true

-- No sector is in both regions.
pub record AreApart (disk sector count other_disk other_sector other_count : ℕ) : Type 0 where
  pub each : (d s : ℕ) → is_within disk sector count d s ≡ true → is_within other_disk other_sector other_count d s ≡ false

-- The disk's sectors from one on are these bytes, in what disks read as or in an image.
pub record ReadsAs (image : Image) (disk sector : ℕ) (bytes : List ℕ) : Type 0 where
  pub each : (i : ℕ) → i < length bytes / 512 → image disk (sector + i) ≡ sector_of bytes i

-- All bytes of the region are zero.
pub record IsZero (image : Image) (disk sector count : ℕ) : Type 0 where
  pub each : (s : ℕ) → sector ≤ s → s < sector + count → image disk s ≡ zeros

-- No sector of the region is unsure.
pub record IsSure (disks : Disks) (disk sector count : ℕ) : Type 0 where
  pub each : (s : ℕ) → sector ≤ s → s < sector + count → disks.unsure disk s ≡ false

-- No sector of the disk is unsure.
pub record IsSynced (disks : Disks) (disk : ℕ) : Type 0 where
  pub each : (s : ℕ) → disks.unsure disk s ≡ false

-- What stays of sectors that are spared, and what a crash at any moment leaves of them.
use Rattle.std.specs.Prelude.{◌≡◌, ◌⊎◌, ℕ, ◌<◌, ◌≤◌, false, length, List}
use Rattle.bx_calls.specs.Calls.{LeavesOnly}
use Rattle.bx_disk.specs.Disks.{Disks, Image, IsImage, zeros}

-- the sectors of labels, and those behind them
abbrev pub IsLabelSector : ℕ → ℕ → Type 0
IsLabelSector disk sector = sector ≡ 0

abbrev pub IsBehindLabel : ℕ → ℕ → Type 0
IsBehindLabel disk sector = 1 ≤ sector

abbrev pub IsAnySector : ℕ → ℕ → Type 0
IsAnySector disk sector = Unit {0}

-- The image has what was sure in sectors of a kind.
pub record HasSureOf (Kind : ℕ → ℕ → Type 0) (old : Disks) (image : Image) : Type 0 where
  pub each : (disk sector : ℕ) → Kind disk sector → old.unsure disk sector ≡ false → image disk sector ≡ old.reads disk sector

-- Sectors of a kind read as they did and stay sure, and so they do at each moment.
pub record Spares (Kind : ℕ → ℕ → Type 0) (old new : Disks) (before now : ℕ) (past since : ℕ → Image → Type 0) : Type 0 where
  pub reads : (disk sector : ℕ) → Kind disk sector → new.reads disk sector ≡ old.reads disk sector
  pub sure : (disk sector : ℕ) → Kind disk sector → old.unsure disk sector ≡ false → new.unsure disk sector ≡ false
  pub moments : LeavesOnly before now past since (HasSureOf Kind old)

-- Disks without labels, for sure: the first sector of each is zeros.
pub record AreBare (disks : Disks) : Type 0 where
  pub zero : (disk : ℕ) → disk < length disks.sizes → disks.reads disk 0 ≡ zeros
  pub sure : (disk : ℕ) → disks.unsure disk 0 ≡ false

-- The image has no label on disks of these sizes.
pub record IsBare (sizes : List ℕ) (image : Image) : Type 0 where
  pub zero : (disk : ℕ) → disk < length sizes → image disk 0 ≡ zeros

-- The image is one of the disks before, or has no label.
abbrev pub IsOldOrBare : Disks → List ℕ → Image → Type 0
IsOldOrBare old sizes image = IsImage old image ⊎ IsBare sizes image

-- The image has all that the disks read as behind the labels.
pub record HasBehind (disks : Disks) (image : Image) : Type 0 where
  pub each : (disk sector : ℕ) → 1 ≤ sector → image disk sector ≡ disks.reads disk sector

-- While disks are labelled: the image has the labels that were sure before, or all that stands behind labels.
abbrev pub IsBareOrBehind : Disks → Image → Type 0
IsBareOrBehind old image = HasSureOf IsLabelSector old image ⊎ HasBehind old image

-- While a volume is made: the image is one of the disks before, or has no label, or has all of the volume but its labels.
abbrev pub IsInTheMaking : Disks → Disks → Image → Type 0
IsInTheMaking old new image = IsOldOrBare old new.sizes image ⊎ HasBehind new image

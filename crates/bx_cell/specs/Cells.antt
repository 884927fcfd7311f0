-- Cells: what they know, and what images hold of them.
use Rattle.std.specs.Prelude.{◌≡◌, ℕ, ◌+◌, ◌-◌, ◌⊎◌, Bool, true, false, List, Some}
use Rattle.bx_disk.specs.Disks.{Image, Disks}
use Rattle.bx_calls.specs.Regions.{IsSynced}
use Rattle.bx_calls.specs.Calls.{KeepsSure, HasSure}
use Rattle.bx_cell.specs.Halves.{Found, cell_in, is_open}

-- What a cell knows: its disk and its first sector there, what was found in it or put there last, and whether it may be
-- put. Once a call of the rack failed it may not, and must be opened again.
pub record Known : Type 0 where
  pub disk : ℕ
  pub base : ℕ
  pub found : Found
  pub ready : Bool

-- The image holds the cell's value, in its half and under its number.
abbrev pub Holds : Known → Image → Type 0
Holds cell image = cell_in (image cell.disk) cell.base ≡ Some cell.found

-- what is found once a value is put: it is in the other half, under a number one higher
abbrev pub next : Found → List ℕ → Found
next found value = record { half = 1 - found.half; number = found.number + 1; value = value }

-- the cell once a value is put, and once it must be opened again
abbrev pub with_value : Known → List ℕ → Known
with_value cell value = record { disk = cell.disk; base = cell.base; found = next cell.found value; ready = true }

abbrev pub shut : Known → Known
shut cell = record { disk = cell.disk; base = cell.base; found = cell.found; ready = false }

-- The image holds what the cell held before, or what it holds after; and it has all that was sure outside the cell.
pub record HasEither (old : Disks) (disk base : ℕ) (before after : Found) (image : Image) : Type 0 where
  pub cell : (cell_in (image disk) base ≡ Some before) ⊎ (cell_in (image disk) base ≡ Some after)
  pub outside : HasSure old disk base 20 image

-- The image holds what the cell held before, and has all that was sure outside the cell.
pub record HasBefore (old : Disks) (disk base : ℕ) (before : Found) (image : Image) : Type 0 where
  pub cell : cell_in (image disk) base ≡ Some before
  pub outside : HasSure old disk base 20 image

-- Between two steps of a put: the disk is sure and has what the cell held, and what was sure outside the cell stays.
pub record CellStands (old now : Disks) (disk base : ℕ) (found : Found) : Type 0 where
  pub keeps : KeepsSure old now disk base 20
  pub synced : IsSynced now disk
  pub cell : cell_in (now.reads disk) base ≡ Some found

-- The image has all that was sure outside the sector of a gate, and where the gate was closed it is.
pub record ClosesOnly (old : Disks) (disk sector : ℕ) (image : Image) : Type 0 where
  pub outside : HasSure old disk sector 1 image
  pub closed : is_open (old.reads disk sector) ≡ false → is_open (image disk sector) ≡ false

-- The disks of a volume of one device and one area.
use Rattle.std.specs.Prelude.{◌≡◌, ℕ, ◌<◌, ◌≤◌, false, List, slice_index}
use Rattle.bx_disk.specs.Disks.{Disks}
use Rattle.bx_facts.specs.Writes.{IsOfStore, Made}
use Rattle.bx_global.specs.Opening.{opening_state}
use Rattle.bx_layout.specs.Labels.{SpellsLabel}
use Rattle.bx_layout.specs.declared.label.Label.{Label}
use Rattle.bx_places.specs.Places.{disk_sectors}

-- the first label of a volume with this number
abbrev pub first_label : ℕ → Label
first_label volume = record { volume = volume; disk = 0; devices = 1; areas = 1 }

-- what a store of that volume is made for
abbrev pub made_for : ℕ → Made
made_for volume = record { volume = volume; nodes = 1; devices = 1; areas = 1 }

-- The disks are as long as those of a volume of one device and one area.
pub record AreLong (sizes : List ℕ) : Type 0 where
  pub long : (disk : ℕ) → disk < 5 → disk_sectors 1 1 disk ≤ slice_index sizes disk

-- They are, and the first has its label, surely.
pub record IsBench (disks : Disks) (volume : ℕ) : Type 0 where
  pub long : AreLong disks.sizes
  pub reads : SpellsLabel (first_label volume) (disks.reads 0 0)
  pub sure : disks.unsure 0 0 ≡ false

-- So are those of both members.
pub record IsLabelledBench (disks : Disks) (volume : ℕ) : Type 0 where
  pub bench : IsBench disks volume
  pub members : IsOfStore (made_for volume) disks (opening_state 1 1)

-- Cells that are written anew, one on each of the first disks.
use Rattle.std.specs.Prelude.{◌≡◌, ℕ, ◌+◌, ◌<◌, ◌≤◌, ◌⊎◌, true, false, List, ◌++◌, Some}
use Rattle.bx_disk.specs.Disks.{Image, Disks, Stays}
use Rattle.bx_calls.specs.Regions.{IsSynced}
use Rattle.bx_layout.specs.Labels.{gate_text}
use Rattle.bx_layout.specs.declared.gate.Gate.TheVariants.{Open, Closed}
use Rattle.bx_cell.specs.Halves.{Found, cell_in}
use Rattle.bx_cell.specs.Bytes.{body_text}

-- what is found in a cell that was written anew
abbrev pub first : List ℕ → Found
first value = record { half = 0; number = 1; value = value }

-- what is written: half 0, and behind it the closed gate of half 1
abbrev pub format_text : List ℕ → List ℕ
format_text value = gate_text Open ++ (body_text 1 value ++ gate_text Closed)

-- a sector that isn't written: its disk is none of the first, or it stands before the eleven sectors or behind them
abbrev pub IsBeside : ℕ → ℕ → ℕ → ℕ → Type 0
IsBeside count base d s = (count ≤ d) ⊎ ((s < base) ⊎ (base + 11 ≤ s))

-- Sectors that weren't written read as they did, sure ones stay sure, and what is still unsure is as it was. Disks behind
-- the first are as they were. The sizes stay.
pub record KeepsBeside (old new : Disks) (count base : ℕ) : Type 0 where
  pub sizes : new.sizes ≡ old.sizes
  pub reads : (d s : ℕ) → IsBeside count base d s → new.reads d s ≡ old.reads d s
  pub sure : (d s : ℕ) → IsBeside count base d s → old.unsure d s ≡ false → new.unsure d s ≡ false
  pub still : (d s : ℕ) → IsBeside count base d s → new.unsure d s ≡ true → Stays old new d s
  pub others : (d s : ℕ) → count ≤ d → Stays old new d s

-- The image has all that was sure in sectors that weren't written.
pub record HasBeside (old : Disks) (count base : ℕ) (image : Image) : Type 0 where
  pub beside : (d s : ℕ) → IsBeside count base d s → old.unsure d s ≡ false → image d s ≡ old.reads d s

-- Each of the first disks is sure, and its cell has the value.
pub record AreFormatted (now : Disks) (count base : ℕ) (value : List ℕ) : Type 0 where
  pub synced : (d : ℕ) → d < count → IsSynced now d
  pub cell : (d : ℕ) → d < count → cell_in (now.reads d) base ≡ Some (first value)

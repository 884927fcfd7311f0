-- Sectors that were written, by their numbers. A sector that isn't there was never written.
use Rattle.std.specs.Prelude.{ℕ, Bool, nat_lt, if◌then◌else◌, List, unwrap_or}
use Rattle.std.specs.Ordering.{nat_cmp}
use Rattle.std.specs.BTreeMap.{BTreeMap, get}
use Rattle.bx_disk.specs.Disks.{zeros}
use Rattle.bx_disk.specs.Crash.{noise_at, seeded}
use Rattle.bx_disk.specs.declared.noise.Noise.{Noise}
use Rattle.bx_disk.specs.declared.noise.Noise.TheVariants.{Keep, Drop, Seed}
use Rattle.bx_memory_rack.specs.declared.cell.Cell.{Cell}

abbrev pub blank_cell : Cell
blank_cell = record { now = zeros; held = zeros; since = 0 }

-- a sector that was written, or one that wasn't
abbrev pub cell_at : BTreeMap ℕ Cell → ℕ → Cell
cell_at cells s = unwrap_or (get nat_cmp cells s) blank_cell

-- the sector once it holds other bytes, where it was last synced when the record was so long, and is written now
abbrev pub written_cell : ℕ → ℕ → Cell → List ℕ → Cell
written_cell synced since cell content = record {
  now = content;
  held = if nat_lt synced cell.since then cell.held else cell.now;
  since = since;
}

-- whether the sector is unsure, where its disk was last synced when the record was so long
abbrev pub is_unsure : ℕ → Cell → Bool
is_unsure synced cell = nat_lt synced cell.since

-- the sector after a crash, which leaves these bytes in it where it was unsure
abbrev pub left_cell : ℕ → Cell → List ℕ → Cell
left_cell synced cell content = if is_unsure synced cell then record { now = content; held = cell.held; since = cell.since } else cell

-- what a crash makes of the sectors of a disk that was last synced when the record was so long
abbrev pub crashed_cell : Noise → ℕ → (ℕ → Cell) → ℕ → Cell
crashed_cell Keep synced cells s = cells s
crashed_cell Drop synced cells s = left_cell synced (cells s) (cells s).held
crashed_cell (Seed seed) synced cells s = left_cell synced (cells s) (noise_at (λ t. is_unsure synced (cells t)) (seeded seed) s)

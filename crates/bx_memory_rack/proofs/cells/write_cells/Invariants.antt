use Rattle.std.proofs.Common.{◌≡◌, ℕ, ◌+◌, ◌-◌, ◌/◌, ◌<◌, ◌≤◌, length}
use Rattle.std.specs.Prelude.{if◌then◌else◌}
use Rattle.std.specs.Option.{IsSome}
use Rattle.std.specs.Ordering.{nat_cmp}
use Rattle.std.specs.BTreeMap.{get}
use Rattle.bx_disk.specs.Disks.{is_among, sector_of}
use Rattle.bx_memory_rack.specs.Cells.{cell_at, written_cell}
use Rattle.bx_memory_rack.proofs.cells.write_cells.Given as goal

abbrev pub invariant-loop-i : goal.invariant-loop-i
invariant-loop-i l = record {
  there : (s : ℕ) → l.fn.from ≤ s → s < l.fn.from + length l.fn.bytes / 512 → IsSome (get nat_cmp l.cells s);
  so_far : (s : ℕ) → cell_at l.cells s ≡ (if is_among l.fn.from l.i s then written_cell l.fn.synced l.fn.since (cell_at l.fn.cells s) (sector_of l.fn.bytes (s - l.fn.from)) else cell_at l.fn.cells s);
}

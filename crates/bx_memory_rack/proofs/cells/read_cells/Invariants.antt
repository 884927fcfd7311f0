use Rattle.std.proofs.Common.{◌≡◌, ℕ, ◌+◌, ◌<◌, length}
use Rattle.bx_disk.specs.Disks.{sector_of}
use Rattle.bx_memory_rack.specs.Cells.{cell_at}
use Rattle.bx_memory_rack.proofs.cells.read_cells.Given as goal

abbrev pub invariant-loop-i : goal.invariant-loop-i
invariant-loop-i l = record {
  long : length l.into ≡ length l.fn.into;
  so_far : (i : ℕ) → i < l.i → sector_of l.into i ≡ (cell_at l.cells (l.fn.from + i)).now;
}

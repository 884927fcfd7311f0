use Rattle.std.specs.Prelude.{ℕ}
use Rattle.bx_disk.specs.Disks.{sector_of}
use Rattle.bx_memory_rack.specs.Cells.{cell_at, written_cell}
use Rattle.bx_memory_rack.specs.declared.cell.Cell.{Cell}
use Rattle.bx_memory_rack.proofs.Among.{one_more}
use Rattle.bx_memory_rack.proofs.cells.write_cells.Goals as goal

pub loop-i-preserved : goal.loop-i-preserved
loop-i-preserved c = record {
  there = λ s from below. c.write_at.ensures.stay s (c.loop-i.invariant.there s from below);
  so_far = one_more c.args.from c.loop-i.i (cell_at c.write_at.new.cells) (cell_at c.loop-i.cells) (cell_at c.args.cells.now)
      (λ (i : ℕ) (cell : Cell). written_cell c.args.synced c.args.since cell (sector_of c.args.bytes.now i))
      c.loop-i.invariant.so_far (cc) c.write_at.ensures.others;
}

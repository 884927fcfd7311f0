use Rattle.std.proofs.Common.{◌≡◌, drop}
use Rattle.bx_plain.specs.Rows.{lock_row}
use Rattle.bx_plain.specs.Tables.{AreOf}
use Rattle.bx_plain.proofs.table.row_of.Given as goal

abbrev pub invariant-loop-row : goal.invariant-loop-row
invariant-loop-row l = AreOf l.block (drop l.row-index l.row-items) × (lock_row (drop l.row-index l.row-items) l.session l.block ≡ lock_row l.rows l.session l.block)

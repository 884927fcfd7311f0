use Rattle.std.proofs.Common.{◌≡◌, max, drop}
use Rattle.bx_plain.specs.Rows.{floor_in}
use Rattle.bx_plain.specs.Tables.{AreOf}
use Rattle.bx_plain.proofs.table.floor_of.Given as goal

abbrev pub invariant-loop-row : goal.invariant-loop-row
invariant-loop-row l = AreOf l.block (drop l.row-index l.row-items) × (max l.floor (floor_in (drop l.row-index l.row-items) l.block) ≡ floor_in l.rows l.block)

use Rattle.std.proofs.Common.{drop}
use Rattle.bx_plain.specs.Rows.{AllLet}
use Rattle.bx_plain.specs.Tables.{AreOf}
use Rattle.bx_plain.proofs.table.is_free.Given as goal

abbrev pub invariant-loop-row : goal.invariant-loop-row
invariant-loop-row l =
    AreOf l.block (drop l.row-index l.row-items)
    × (AllLet l.session l.block l.mode (drop l.row-index l.row-items) → AllLet l.session l.block l.mode l.rows)
    × (AllLet l.session l.block l.mode l.rows → AllLet l.session l.block l.mode (drop l.row-index l.row-items))

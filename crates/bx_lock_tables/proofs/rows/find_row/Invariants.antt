use Rattle.std.proofs.Common.{◌≡◌, drop}
use Rattle.bx_lock_tables.specs.Rows.{row_of}
use Rattle.bx_lock_tables.proofs.rows.find_row.Given as goal

abbrev pub invariant-loop-row : goal.invariant-loop-row
invariant-loop-row l = row_of l.rows l.session ≡ row_of (drop l.row-index l.rows) l.session

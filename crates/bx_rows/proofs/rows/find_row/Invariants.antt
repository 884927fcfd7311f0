use Rattle.std.proofs.Common.{◌≡◌, drop}
use Rattle.bx_rows.specs.Words.{row_in}
use Rattle.bx_rows.proofs.rows.find_row.Given as goal

abbrev pub invariant-loop-row : goal.invariant-loop-row
invariant-loop-row l = row_in l.rows l.session ≡ row_in (drop l.row-index l.rows) l.session

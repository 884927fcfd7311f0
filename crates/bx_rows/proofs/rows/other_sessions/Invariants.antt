use Rattle.std.proofs.Common.{◌≡◌, take}
use Rattle.bx_rows.specs.Rows.{without}
use Rattle.bx_rows.proofs.rows.other_sessions.Given as goal

abbrev pub invariant-loop-row : goal.invariant-loop-row
invariant-loop-row l = l.new ≡ without l.session (take l.row-index l.rows)

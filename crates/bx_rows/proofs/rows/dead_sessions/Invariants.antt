use Rattle.std.proofs.Common.{◌≡◌, take, map}
use Rattle.bx_rows.specs.Rows.{dead}
use Rattle.bx_rows.proofs.rows.dead_sessions.Given as goal

abbrev pub invariant-loop-row : goal.invariant-loop-row
invariant-loop-row l = l.new ≡ map dead (take l.row-index l.rows)

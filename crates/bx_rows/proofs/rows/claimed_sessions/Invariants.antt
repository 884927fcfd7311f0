use Rattle.std.proofs.Common.{◌≡◌, take, map}
use Rattle.bx_rows.specs.Rows.{claimed}
use Rattle.bx_rows.proofs.rows.claimed_sessions.Given as goal

abbrev pub invariant-loop-row : goal.invariant-loop-row
invariant-loop-row l = l.new ≡ map (claimed l.session l.by) (take l.row-index l.rows)

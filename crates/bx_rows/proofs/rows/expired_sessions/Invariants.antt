use Rattle.std.proofs.Common.{◌≡◌, take, map}
use Rattle.bx_rows.specs.Rows.{expired}
use Rattle.bx_rows.proofs.rows.expired_sessions.Given as goal

abbrev pub invariant-loop-row : goal.invariant-loop-row
invariant-loop-row l = l.new ≡ map (expired l.session) (take l.row-index l.rows)

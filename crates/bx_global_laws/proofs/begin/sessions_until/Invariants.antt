use Rattle.std.proofs.Common.{◌≡◌}
use Rattle.bx_global.specs.Opening.{rows_until}
use Rattle.bx_global_laws.proofs.begin.sessions_until.Given as goal

abbrev pub invariant-loop-node : goal.invariant-loop-node
invariant-loop-node l = l.rows ≡ rows_until l.until l.node

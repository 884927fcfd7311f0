use Rattle.bx_plain_store.specs.Fits.{HasSessionsOf}
use Rattle.bx_plain_store.proofs.sessions.sessions_of.Given as goal

abbrev pub invariant-loop-node : goal.invariant-loop-node
invariant-loop-node l = HasSessionsOf l.known l.node l.owns.items

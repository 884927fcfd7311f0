use Rattle.bx_plain_store.proofs.Places.{sessions_pushed}
use Rattle.bx_plain_store.proofs.sessions.sessions_of.Goals as goal

pub loop-node-preserved : goal.loop-node-preserved
loop-node-preserved c = rw c.in_ok-push.ensures.items (sessions_pushed c.args.known.now c.loop-node.node c.loop-node.owns.items _ c.loop-node.invariant c.any_session.ensures)

use Rattle.bx_locks.proofs.Making.{AreClerks}
use Rattle.bx_locks.proofs.locks.Locks.new.Given as goal

abbrev pub invariant-loop-node : goal.invariant-loop-node
invariant-loop-node l = AreClerks l.state l.node l.clerks.items

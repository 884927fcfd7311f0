use Rattle.std.proofs.Common.{◌≡◌, ◌++◌}
use Rattle.bx_proposer.specs.Names.{first_nodes}
use Rattle.bx_proposer.proofs.names.push_nodes.Given as goal

abbrev pub invariant-loop-node : goal.invariant-loop-node
invariant-loop-node l = l.all.items ≡ l.initial.all.items ++ first_nodes l.node

use Rattle.std.proofs.Common.{◌≡◌, ◌++◌}
use Rattle.bx_base.specs.declared.names.Actor.TheVariants.{Member, Node, Replica, Server}
use Rattle.bx_world_machines.specs.Machines.{named}
use Rattle.bx_world_machines.proofs.begins.all_up.Given as goal

abbrev pub invariant-loop-node : goal.invariant-loop-node
invariant-loop-node l = l.up.items ≡ named Node l.node

abbrev pub invariant-loop-replica : goal.invariant-loop-replica
invariant-loop-replica l = l.up.items ≡ l.initial.up.items ++ named Replica l.replica

abbrev pub invariant-loop-server : goal.invariant-loop-server
invariant-loop-server l = l.up.items ≡ l.initial.up.items ++ named Server l.server

abbrev pub invariant-loop-member : goal.invariant-loop-member
invariant-loop-member l = l.up.items ≡ l.initial.up.items ++ named Member l.member

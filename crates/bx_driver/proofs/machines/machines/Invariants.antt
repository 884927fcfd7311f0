use Rattle.std.proofs.Common.{◌≡◌, ◌++◌}
use Rattle.bx_base.specs.declared.names.Actor.TheVariants.{Node, Replica, Server}
use Rattle.bx_driver.proofs.InTurn.{first_member, first_ones, second_member}
use Rattle.bx_driver.proofs.machines.machines.Given as goal

abbrev pub invariant-loop-node : goal.invariant-loop-node
invariant-loop-node g l = l.all.items ≡ first_ones Node l.node

abbrev pub invariant-loop-replica : goal.invariant-loop-replica
invariant-loop-replica g l = l.all.items ≡ l.initial.all.items ++ first_ones Replica l.replica

abbrev pub invariant-loop-server : goal.invariant-loop-server
invariant-loop-server g l = l.all.items ≡ l.initial.all.items ++ first_ones Server l.server

abbrev pub invariant-loop-device : goal.invariant-loop-device
invariant-loop-device g l = l.all.items ≡ l.initial.all.items ++ first_ones first_member l.device

abbrev pub invariant-loop-device-2 : goal.invariant-loop-device-2
invariant-loop-device-2 g l = l.all.items ≡ l.initial.all.items ++ first_ones second_member l.device

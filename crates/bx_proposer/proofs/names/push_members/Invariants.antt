use Rattle.std.proofs.Common.{◌≡◌, ◌++◌}
use Rattle.bx_proposer.specs.Names.{first_members}
use Rattle.bx_proposer.proofs.names.push_members.Given as goal

abbrev pub invariant-loop-device : goal.invariant-loop-device
invariant-loop-device l = l.all.items ≡ l.initial.all.items ++ first_members l.side l.device

use Rattle.std.proofs.Common.{drop, Contains}
use Rattle.bx_plain.proofs.busy.is_in.Given as goal

abbrev pub invariant-loop-machine : goal.invariant-loop-machine
invariant-loop-machine l = Contains l.machines.items l.who → Contains (drop l.machine-index l.machines.items) l.who

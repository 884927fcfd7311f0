use Rattle.std.proofs.Common.{◌≡◌}
use Rattle.bx_world.specs.Outcomes.{empty_desks}
use Rattle.bx_world.proofs.begins.new_desks.Given as goal

abbrev pub invariant-loop-node : goal.invariant-loop-node
invariant-loop-node l = l.desks.items ≡ empty_desks l._node

use Rattle.std.proofs.Common.{◌≡◌, ◌++◌}
use Rattle.bx_generated.specs.Schedules.{node_ticks, text_of_lines}
use Rattle.bx_generated.proofs.generated.put_node_ticks.Given as goal

abbrev pub invariant-loop-node : goal.invariant-loop-node
invariant-loop-node l = l.text.items ≡ l.initial.text.items ++ text_of_lines (node_ticks l.number l.node)

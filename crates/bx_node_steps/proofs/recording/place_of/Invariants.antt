use Rattle.std.proofs.Common.{◌≤◌, take}
use Rattle.std.specs.List.{AllByRecursion}
use Rattle.bx_node_tries.specs.declared.round.Waiting.{Waiting}
use Rattle.bx_node_steps.proofs.recording.place_of.Given as goal

abbrev pub invariant-loop-i : goal.invariant-loop-i
invariant-loop-i l = AllByRecursion (λ (one : Waiting). one.number ≤ l.number) (take l.i l.calls)

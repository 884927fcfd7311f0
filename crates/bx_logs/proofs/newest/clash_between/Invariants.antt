use Rattle.bx_logs.proofs.Clashes.{IsLeft}
use Rattle.bx_logs.proofs.newest.clash_between.Given as goal

abbrev pub invariant-loop-at : goal.invariant-loop-at
invariant-loop-at l =
    (goal.iterator-loop-at).can_next l.at-iterator ×
    (goal.iterator-loop-at).is_finite l.at-iterator ×
    IsLeft l.one l.other l.at-iterator

use Rattle.std.proofs.Common.{◌≡◌, ◌++◌}
use Rattle.bx_recover.specs.HomesOf.{home_runs}
use Rattle.bx_recover.proofs.homes.runs_of.Given as goal

abbrev pub invariant-loop-at : goal.invariant-loop-at
invariant-loop-at l =
    (goal.iterator-loop-at).can_next l.at-iterator ×
    (goal.iterator-loop-at).is_finite l.at-iterator ×
    (l.runs.0 ≡ 16) ×
    (l.runs.1 ++ home_runs l.devices l.at-iterator ≡ home_runs l.devices l.newest.entries)

use Rattle.bx_plain_repair.specs.HomesOf.{AreHomesBelow}
use Rattle.bx_plain_repair.proofs.homes.home_runs.Given as goal

abbrev pub invariant-loop-at : goal.invariant-loop-at
invariant-loop-at l = AreHomesBelow l.newest l.at l.runs

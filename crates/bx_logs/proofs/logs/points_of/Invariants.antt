use Rattle.std.proofs.Common.{◌≡◌, take}
use Rattle.bx_logs.specs.Logs.{points_in}
use Rattle.bx_logs.proofs.logs.points_of.Given as goal

abbrev pub invariant-loop-records : goal.invariant-loop-records
invariant-loop-records l = l.points ≡ points_in (take l.records-index l.logs)

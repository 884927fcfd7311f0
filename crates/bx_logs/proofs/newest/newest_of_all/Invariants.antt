use Rattle.std.proofs.Common.{take}
use Rattle.bx_logs.specs.Newest.{AreNewest}
use Rattle.bx_logs.proofs.newest.newest_of_all.Given as goal

abbrev pub invariant-loop-records : goal.invariant-loop-records
invariant-loop-records l = AreNewest (take l.records-index l.logs) l.newest

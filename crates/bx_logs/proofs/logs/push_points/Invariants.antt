use Rattle.std.proofs.Common.{◌≡◌, ◌++◌, map, take}
use Rattle.bx_logs.specs.Bodies.{point_of}
use Rattle.bx_logs.proofs.logs.push_points.Given as goal

abbrev pub invariant-loop-record : goal.invariant-loop-record
invariant-loop-record l = l.points ≡ l.fn.points ++ map point_of (take l.record-index l.records)

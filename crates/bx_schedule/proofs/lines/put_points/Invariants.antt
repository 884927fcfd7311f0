use Rattle.std.proofs.Common.{◌≡◌, ◌++◌, map, take}
use Rattle.bx_script.specs.declared.trace_line.TraceLine.TheVariants.{Acted}
use Rattle.bx_schedule.proofs.lines.put_points.Given as goal

abbrev pub invariant-loop-point : goal.invariant-loop-point
invariant-loop-point l = l.lines.items ≡ l.fn.lines.items ++ map (λ point. Acted point) (take l.point-index l.points)

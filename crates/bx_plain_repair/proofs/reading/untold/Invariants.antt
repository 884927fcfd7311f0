use Rattle.std.proofs.Common.{◌≡◌, ℕ, ◌<◌, ◌≤◌, get_or}
use Rattle.bx_base.specs.declared.names.Point.{Point}
use Rattle.bx_plain_repair.proofs.reading.untold.Given as goal

abbrev pub invariant-loop-point : goal.invariant-loop-point
invariant-loop-point l = (k : ℕ) (point : Point) → k < l.point-index → get_or l.points k point ≡ point → point.call ≤ l.floor

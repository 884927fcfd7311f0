use Rattle.std.proofs.Common.{◌-◌, ◌^◌, ◌<◌, ◌≤◌, length}
use Rattle.bx_driver.proofs.nexts.count_of.Given as goal

abbrev pub invariant-loop-low : goal.invariant-loop-low
invariant-loop-low g l = (l.low ≤ length (g.C.Shows.seen l.cluster).post) × (l.low ≤ l.high) × (l.high ≤ 2 ^ 64 - 1) × (l.high < 2 ^ 64 - 1 → length (g.C.Shows.seen l.cluster).post ≤ l.high)

abbrev pub decreases-loop-low : goal.decreases-loop-low
decreases-loop-low g l = l.high - l.low

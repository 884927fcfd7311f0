use Rattle.std.proofs.Common.{◌-◌, ◌≤◌, length}
use Rattle.bx_post.specs.Rising.{IsRising, places_to}
use Rattle.bx_post.proofs.search.place_above.Given as goal

abbrev pub invariant-loop-low : goal.invariant-loop-low
invariant-loop-low l = (l.low ≤ places_to l.bound l.numbers.items) × (places_to l.bound l.numbers.items ≤ l.high) × (l.high ≤ length l.numbers.items) × IsRising l.numbers.items

abbrev pub decreases-loop-low : goal.decreases-loop-low
decreases-loop-low l = l.high - l.low

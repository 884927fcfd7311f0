use Rattle.std.proofs.Common.{◌≡◌}
use Rattle.bx_facts.specs.Holds.{first_of}
use Rattle.bx_clerk.specs.Places.{asks_of}
use Rattle.bx_clerk.specs.Requests.{held_asks}
use Rattle.bx_clerk.proofs.asks.first_held_in.Given as goal

abbrev pub invariant-loop-place : goal.invariant-loop-place
invariant-loop-place l =
    (goal.iterator-loop-place).can_next l.place-iterator ×
    (goal.iterator-loop-place).is_finite l.place-iterator ×
    (first_of (held_asks l.requests (asks_of l.place-iterator)) ≡ first_of (held_asks l.requests (asks_of l.line.entries)))

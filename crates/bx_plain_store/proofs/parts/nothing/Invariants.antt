use Rattle.std.proofs.Common.{◌≡◌, ℕ, length, None}
use Rattle.bx_plain_store.specs.Out.{at}
use Rattle.bx_plain_store.proofs.parts.nothing.Given as goal

abbrev pub invariant-loop : goal.invariant-loop
invariant-loop g l = record {
  long : length l.all.items ≡ l.counter;
  none : (node : ℕ) → at l.all.items node ≡ None;
}

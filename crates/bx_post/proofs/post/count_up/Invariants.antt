use Rattle.std.proofs.Common.{◌≡◌, ◌++◌, drop, length}
use Rattle.bx_post.specs.Slots.{count_from}
use Rattle.bx_post.proofs.post.count_up.Given as goal

abbrev pub invariant-loop-place : goal.invariant-loop-place
invariant-loop-place l = (l.numbers.items ≡ count_from 1 l.place ++ drop l.place l.initial.numbers.items) × (length l.numbers.items ≡ length l.initial.numbers.items)

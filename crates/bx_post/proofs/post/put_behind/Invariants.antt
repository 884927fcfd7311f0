use Rattle.std.proofs.Common.{◌≡◌, ◌+◌, map, length}
use Rattle.bx_post.specs.Posts.{fresh}
use Rattle.bx_post.specs.Slots.{AreNumbered, posted, count_from}
use Rattle.bx_post.proofs.post.put_behind.Given as goal

abbrev pub invariant-loop-letter : goal.invariant-loop-letter
invariant-loop-letter l =
    (goal.iterator-loop-letter).can_next l.letter-iterator ×
    (goal.iterator-loop-letter).is_finite l.letter-iterator ×
    (posted l.added.items ≡ map fresh l.yielded) ×
    AreNumbered (length l.slots.items + 1) l.added.items ×
    (l.numbers.items ≡ count_from (length l.slots.items + 1) (length l.yielded)) ×
    (l.number ≡ length l.slots.items + length l.yielded)

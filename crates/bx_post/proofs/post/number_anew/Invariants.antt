use Rattle.std.proofs.Common.{◌≡◌, take, length}
use Rattle.bx_post.specs.Slots.{AreNumbered, posted}
use Rattle.bx_post.proofs.post.number_anew.Given as goal

abbrev pub invariant-loop-place : goal.invariant-loop-place
invariant-loop-place l = AreNumbered 1 (take l.place l.slots.items) × (posted l.slots.items ≡ posted l.initial.slots.items) × (length l.slots.items ≡ length l.initial.slots.items)

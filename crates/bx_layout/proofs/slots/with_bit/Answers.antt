use Rattle.bx_layout.proofs.SlotWords.{bit_set, bit_cleared}
use Rattle.bx_layout.proofs.slots.with_bit.Goals as goal

pub returns-then-set : goal.returns-then-set
returns-then-set c = λ other lt. rw c.if-set.true (bit_set c.args.byte c.args.place other c.requires)

pub returns-else-set : goal.returns-else-set
returns-else-set c = λ other lt. rw c.if-set.false (bit_cleared c.args.byte c.args.place other c.requires lt)

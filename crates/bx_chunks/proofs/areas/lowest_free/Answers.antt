use Rattle.bx_chunks.proofs.OneArea.{none_free, count_zero}
use Rattle.bx_chunks.proofs.areas.lowest_free.Goals as goal

pub returns-in-None-lowest_free-clause-none : goal.returns-in-None-lowest_free-clause-none
returns-in-None-lowest_free-clause-none c = none_free c.args.area c.args.block.now c.in-Some.slots (rw c.in-Some.is at c.in_ok-slots_of.ensures.some) c.in-None-lowest_free.ensures.none

pub returns-in-None-lowest_free-clause-zero : goal.returns-in-None-lowest_free-clause-zero
returns-in-None-lowest_free-clause-zero c = count_zero c.args.area c.args.block.now c.in-Some.slots (rw c.in-Some.is at c.in_ok-slots_of.ensures.some) c.in-None-lowest_free.ensures.none

use Rattle.std.proofs.Common.{sym, inl, inr}
use Rattle.bx_ready.proofs.descents.page_at.Goals as goal

pub returns-then-block-handle : goal.returns-then-block-handle
returns-then-block-handle g c = record { block = c.in-Some.block.now; there = rw c.block_at.ensures at (sym c.in-Some.ensures); other = inl c.if-block-handle.true }

pub returns-in-None-page_of : goal.returns-in-None-page_of
returns-in-None-page_of g c = record { block = c.in-Some.block.now; there = rw c.block_at.ensures at (sym c.in-Some.ensures); other = inr c.in-None-page_of.ensures.none }

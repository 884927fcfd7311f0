use Rattle.std.proofs.Common.{refl, sym, inr}
use Rattle.bx_sizes.proofs.clearing.piece_held.Goals as goal

pub returns-else-block-names : goal.returns-else-block-names
returns-else-block-names g c = (refl, inr (record { block = c.in-Some.block.now; there = sym (rw c.block_at-at.ensures at c.in-Some.ensures); other = c.if-block-names.false }))

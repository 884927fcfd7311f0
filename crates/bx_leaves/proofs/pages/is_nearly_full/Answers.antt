use Rattle.std.proofs.Common.{sym}
use Rattle.bx_leaves.proofs.Steps.{nearly_full}
use Rattle.bx_leaves.proofs.pages.is_nearly_full.Goals as goal

pub returns-in-Some-page_of : goal.returns-in-Some-page_of
returns-in-Some-page_of g c =
    nearly_full (g.V.View.held c.args.view.now) c.args.handle c.in-Some.block.now c.in-Some-page_of.page c.room.result
    (rw c.block_at.ensures at (sym c.in-Some.ensures)) c.if-block-handle.false c.in-Some-page_of.ensures.some c.room.ensures

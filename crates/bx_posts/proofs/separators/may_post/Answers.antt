use Rattle.std.proofs.Common.{sym}
use Rattle.bx_blink.specs.Walks.{reads_with}
use Rattle.bx_posts.proofs.Neighbours.{last_page}
use Rattle.bx_posts.proofs.separators.may_post.Goals as goal

pub returns-in-None-high : goal.returns-in-None-high
returns-in-None-high g c =
    last_page (reads_with (g.V.View.held c.args.view.now) (g.V.View.hints c.args.view.now) c.args.draft.now) c.args.page c.in-Some.block.now c.in-Some-2.found (rw c.block_at.ensures at (sym c.in-Some.ensures)) c.if-block-page.false
    (rw c.in-Some-2.is at c.in_ok-page_in-in-Some.ensures.some) (sym c.in-None-high.ensures)

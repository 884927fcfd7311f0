use Rattle.bx_chunks.proofs.Counts.{held_again, none_held}
use Rattle.bx_chunks.proofs.counting.count_held.Goals as goal

pub loop-area-init : goal.loop-area-init
loop-area-init g c = none_held (g.V.View.held c.args.view.now)

pub loop-area-preserved : goal.loop-area-preserved
loop-area-preserved g c =
    held_again (g.V.View.held c.args.view.now) c.loop-area.area c.loop-area.total c.in_ok-count_in-in-Some.field-0 c.own_block-own.result c.from.result c.in-Some.block.now
    c.loop-area.invariant c.own_block-own.ensures c.in-Some.ensures c.in_ok-count_in-in-Some.ensures.count c.in_ok-count_in-in-Some.ensures.most c.from.ensures

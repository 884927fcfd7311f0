use Rattle.bx_chunks.proofs.Looks.{none_so_far, so_far_more}
use Rattle.bx_chunks.proofs.allocating.choose.Goals as goal

pub loop-turn-init : goal.loop-turn-init
loop-turn-init g c = none_so_far (g.V.View.held c.args.view.now) c.args.draft.now c.args.near c.args.areas

pub loop-turn-preserved : goal.loop-turn-preserved
loop-turn-preserved g c =
    so_far_more (g.V.View.held c.args.view.now) c.args.draft.now c.args.near c.args.areas c.loop-turn.turn c.loop-turn.spare c.in-NoneFree.count c.area_in_turn-area.result
    c.area_in_turn-area.ensures c.loop-turn.invariant (rw c.in-NoneFree.is at c.in_ok-slots.ensures)

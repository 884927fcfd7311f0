use Rattle.std.proofs.Common.{refl}
use Rattle.bx_chunks.proofs.Uses.{lacks_its, is_named, uses_of}
use Rattle.bx_chunks.proofs.freeing.slots_of_used.Goals as goal

pub returns-in-None : goal.returns-in-None
returns-in-None g c =
    (lacks_its (g.V.View.held c.args.view.now) c.args.draft.now c.args.handle c.of-parts.result c.block-at.result c.of-parts.ensures c.if-parts-ge-SLOTS.false c.block-at.ensures c.in-None.ensures, refl)

pub returns-then-block-handle : goal.returns-then-block-handle
returns-then-block-handle g c =
    uses_of (g.V.View.held c.args.view.now) c.args.draft.now c.args.handle
    (is_named (g.V.View.held c.args.view.now) c.args.draft.now c.args.handle c.of-parts.result c.block-at.result c.in-Some.block.now c.of-parts.ensures c.if-parts-ge-SLOTS.false c.block-at.ensures c.in-Some.ensures c.if-block-handle.true)
    c.slots_of_given.result c.slots_of_given.ensures

use Rattle.std.proofs.Common.{◌<◌, ap, subst, ◌∙◌}
use Rattle.bx_audit_slots.proofs.Numbers.{told_in}
use Rattle.bx_places.specs.declared.chunk_handle.ChunkHandle.{ChunkHandle}
use Rattle.bx_places.specs.Handles.{block_of}
use Rattle.bx_audit_slots.proofs.told.told_of.Goals as goal

pub returns : goal.returns
returns c = λ truth chunked used.
    let name = c.of-name.ensures in
    told_in c.args.areas truth c.requires c.args.slots.now c.args.handle c.block-at.result c.handle_in.result used chunked
    (subst (λ (n : ChunkHandle). (n.area < c.args.areas) × (n.slot < 960)) name (c.if-name-areas.false, c.if-name-ge-SLOTS.false)) (c.block-at.ensures ∙ ap block_of name) c.handle_in.ensures

use Rattle.std.proofs.Common.{arith}
use Rattle.bx_base.specs.declared.names.Mode.TheVariants.{Exclusive}
use Rattle.bx_blink.specs.Walks.{Reads, reads_with, most, start}
use Rattle.bx_blink.proofs.Landings.{landing}
use Rattle.bx_leaves.proofs.entries.leaf_with.Goals as goal

pub write_with-requires-clause-child : goal.write_with-requires-clause-child
write_with-requires-clause-child g c =
    let reads : Reads = reads_with (g.V.View.held c.args.view.now) (g.V.View.hints c.args.view.now) c.args.draft.now in
    let l = landing reads 0 Exclusive c.args.entry.0.now most (start c.args.root Exclusive) c.in_ok-handle.handle c.in_ok-handle.page c.in_ok-handle.ensures.end in
    let flat = l.same_level in
    λ above. absurd (omega (arith, flat, above))

pub write_with-requires-clause-below : goal.write_with-requires-clause-below
write_with-requires-clause-below g c =
    let reads : Reads = reads_with (g.V.View.held c.args.view.now) (g.V.View.hints c.args.view.now) c.args.draft.now in
    (landing reads 0 Exclusive c.args.entry.0.now most (start c.args.root Exclusive) c.in_ok-handle.handle c.in_ok-handle.page c.in_ok-handle.ensures.end).below

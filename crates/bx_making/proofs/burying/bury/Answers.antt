use Rattle.std.proofs.Common.{List, length, true, subst, ap, arith, inr, rules, Err, Ok}
use Rattle.bx_records.specs.Drafts.{Changed}
use Rattle.bx_chunks.specs.Marking.{MarksAt}
use Rattle.bx_chunks.specs.declared.error.ChunkError.TheVariants.{Crowded}
use Rattle.bx_making.proofs.FileDead.{buries_held, buries_in}
use Rattle.bx_making.proofs.burying.bury.Goals as goal

pub returns-in_err-next-clause-at : goal.returns-in_err-next-clause-at
returns-in_err-next-clause-at g c = search rules

pub returns-in_err-next-clause-tree : goal.returns-in_err-next-clause-tree
returns-in_err-next-clause-tree g c = λ areas truth tree file same is holds there bare not_root.
    buries_in areas (g.V.View.held c.args.view.now) truth c.args.draft.now c.args.draft.now tree c.args.handle c.args.inode file same is holds there bare not_root c.from_residual.result (returns-in_err-next-clause-at g c)

pub returns-in_err-next-clause-held : goal.returns-in_err-next-clause-held
returns-in_err-next-clause-held g c = λ before some.
    buries_held (g.V.View.held c.args.view.now) c.args.draft.now c.args.draft.now c.args.handle c.args.inode before some c.from_residual.result (returns-in_err-next-clause-at g c)

pub returns-in-Err-clause-at : goal.returns-in-Err-clause-at
returns-in-Err-clause-at g c = search rules

pub returns-in-Err-clause-tree : goal.returns-in-Err-clause-tree
returns-in-Err-clause-tree g c = λ areas truth tree file same is holds there bare not_root.
    buries_in areas (g.V.View.held c.args.view.now) truth c.args.draft.now c.args.draft.now tree c.args.handle c.args.inode file same is holds there bare not_root (Err c.in-Err.error) (returns-in-Err-clause-at g c)

pub returns-in-Err-clause-held : goal.returns-in-Err-clause-held
returns-in-Err-clause-held g c = λ before some.
    buries_held (g.V.View.held c.args.view.now) c.args.draft.now c.args.draft.now c.args.handle c.args.inode before some (Err c.in-Err.error) (returns-in-Err-clause-at g c)

pub returns-then-blocks-ge-MOST_BLOCKS-clause-at : goal.returns-then-blocks-ge-MOST_BLOCKS-clause-at
returns-then-blocks-ge-MOST_BLOCKS-clause-at g c =
    let full = c.if-blocks-ge-MOST_BLOCKS.true in
    let e = ap length c.blocks-2.ensures.is in
    inr (record {
      mid = c.mark_dead.new.draft;
      marks = subst (λ (d : List Changed). MarksAt (g.V.View.held c.args.view.now) d c.mark_dead.new.draft c.args.handle true (Ok tt)) (c.in_ok-next.ensures c.blocks-blocks.ensures.draft) c.in-Ok.ensures.at;
      many = omega (arith, full, e);
    })

pub returns-then-blocks-ge-MOST_BLOCKS-clause-tree : goal.returns-then-blocks-ge-MOST_BLOCKS-clause-tree
returns-then-blocks-ge-MOST_BLOCKS-clause-tree g c = λ areas truth tree file same is holds there bare not_root.
    buries_in areas (g.V.View.held c.args.view.now) truth c.args.draft.now c.args.draft.now tree c.args.handle c.args.inode file same is holds there bare not_root (Err Crowded) (returns-then-blocks-ge-MOST_BLOCKS-clause-at g c)

pub returns-then-blocks-ge-MOST_BLOCKS-clause-held : goal.returns-then-blocks-ge-MOST_BLOCKS-clause-held
returns-then-blocks-ge-MOST_BLOCKS-clause-held g c = λ before some.
    buries_held (g.V.View.held c.args.view.now) c.args.draft.now c.args.draft.now c.args.handle c.args.inode before some (Err Crowded) (returns-then-blocks-ge-MOST_BLOCKS-clause-at g c)

pub returns-in_err-put_inode-clause-at : goal.returns-in_err-put_inode-clause-at
returns-in_err-put_inode-clause-at g c = search rules

pub returns-in_err-put_inode-clause-tree : goal.returns-in_err-put_inode-clause-tree
returns-in_err-put_inode-clause-tree g c = λ areas truth tree file same is holds there bare not_root.
    buries_in areas (g.V.View.held c.args.view.now) truth c.args.draft.now c.args.draft.now tree c.args.handle c.args.inode file same is holds there bare not_root c.from_residual-in_err-put_inode.result (returns-in_err-put_inode-clause-at g c)

pub returns-in_err-put_inode-clause-held : goal.returns-in_err-put_inode-clause-held
returns-in_err-put_inode-clause-held g c = λ before some.
    buries_held (g.V.View.held c.args.view.now) c.args.draft.now c.args.draft.now c.args.handle c.args.inode before some c.from_residual-in_err-put_inode.result (returns-in_err-put_inode-clause-at g c)

pub returns-clause-at : goal.returns-clause-at
returns-clause-at g c = search rules

pub returns-clause-tree : goal.returns-clause-tree
returns-clause-tree g c = λ areas truth tree file same is holds there bare not_root.
    buries_in areas (g.V.View.held c.args.view.now) truth c.args.draft.now c.put_inode.new.draft tree c.args.handle c.args.inode file same is holds there bare not_root (Ok tt) (returns-clause-at g c)

pub returns-clause-held : goal.returns-clause-held
returns-clause-held g c = λ before some.
    buries_held (g.V.View.held c.args.view.now) c.args.draft.now c.put_inode.new.draft c.args.handle c.args.inode before some (Ok tt) (returns-clause-at g c)

use Rattle.std.proofs.Common.{List, subst, sym, ap, ◌∙◌}
use Rattle.bx_inodes.specs.Writing.{PutsInode}
use Rattle.bx_records.specs.Drafts.{Changed}
use Rattle.bx_tree_files.specs.Changes.{with_fields}
use Rattle.bx_sizes.proofs.First.{behind_end, never_stops}
use Rattle.bx_sizes.proofs.Resized.{clear_stops, leaves_trees, regular_bytes, size_put}
use Rattle.bx_sizes.specs.Cuts.{ClearsFirst}
use Rattle.bx_sizes.specs.Lengths.{grows_over, with_length}
use Rattle.bx_sizes.proofs.sizes.set_size.Goals as goal

pub returns-in-Err-clause-step : goal.returns-in-Err-clause-step
returns-in-Err-clause-step g c = λ truth tree file few same is fit holds there.
    let b = regular_bytes c.args.areas truth tree c.args.handle file c.args.inode is holds there c.requires.regular in
    clear_stops c.args.areas truth tree (with_fields c.args.now c.args.sattr.now file) c.in-Err.stop (c.in-Err.ensures.tree truth tree file b.0 few same is fit holds there b.1)

pub returns-in-Ok-clause-step : goal.returns-in-Ok-clause-step
returns-in-Ok-clause-step g c = λ truth tree file few same is fit holds there.
    leaves_trees c.args.areas truth tree c.args.handle file c.args.inode c.in-Ok.draft is holds there c.requires.regular
    (λ was of bytes s at body. c.in-Ok.ensures.tree truth was of bytes few same s fit holds at body)

pub returns-clause-step : goal.returns-clause-step
returns-clause-step g c = λ truth tree file few same is fit holds there.
    let b = regular_bytes c.args.areas truth tree c.args.handle file c.args.inode is holds there c.requires.regular in
    size_put c.args.areas (g.V.View.held c.args.view.now) truth c.put_inode.new.draft tree c.args.handle file c.args.inode c.sized-changed.result c.args.sattr.now c.args.now same is holds there c.requires.regular
    c.requires.given c.requires.most (ap (grows_over c.args.inode) (sym c.from-size.ensures) ∙ sym c.grows_over.ensures ∙ c.if-grows_over.false)
    (c.sized-changed.ensures.is ∙ (λ i. with_length (c.from-size.ensures i) (c.with_given.ensures.is i)))
    (subst (λ (d : List Changed). PutsInode d c.put_inode.new.draft c.args.handle c.sized-changed.result) c.new-draft.ensures c.in_ok-put_inode.ensures.puts) b.0 b.1

pub returns-in-Err-clause-lacks : goal.returns-in-Err-clause-lacks
returns-in-Err-clause-lacks g c = λ truth tree file few same is fit holds there.
    never_stops (List Changed) (λ status. ⊥) (ClearsFirst c.args.areas truth c.args.handle c.args.sattr.now.size) c.in-Err.stop c.in-Err.ensures.inner

pub returns-in-Ok-clause-lacks : goal.returns-in-Ok-clause-lacks
returns-in-Ok-clause-lacks g c = λ truth tree file few same is fit holds there.
    let b = regular_bytes c.args.areas truth tree c.args.handle file c.args.inode is holds there c.requires.regular in (
      (λ status never. never),
      record {
        inode = c.args.inode;
        holds = holds;
        over = ap (grows_over c.args.inode) (sym c.from-size.ensures) ∙ sym c.grows_over.ensures ∙ c.if-grows_over.true;
        lowers = c.in-Ok.ensures.lowers truth tree file b.0 few same is fit holds there b.1 (behind_end c.args.inode c.from-size.result (sym c.grows_over.ensures ∙ c.if-grows_over.true));
      },
    )

pub returns-clause-ready : goal.returns-clause-ready
returns-clause-ready g c = ap (grows_over c.args.inode) (sym c.from-size.ensures) ∙ sym c.grows_over.ensures ∙ c.if-grows_over.false

use Rattle.std.proofs.Common.{List, subst, inr}
use Rattle.std.specs.Prelude.{Err}
use Rattle.bx_base.specs.declared.names.Mode.TheVariants.{Exclusive}
use Rattle.bx_records.specs.Drafts.{Changed}
use Rattle.bx_blink.specs.Walks.{Reads, reads_with, most, start}
use Rattle.bx_blink.proofs.Landings.{landing}
use Rattle.bx_posts.specs.Parents.{PutsInParent}
use Rattle.bx_posts.proofs.posting.post_page.Goals as goal

pub put_in_parent-requires-clause-below : goal.put_in_parent-requires-clause-below
put_in_parent-requires-clause-below g c =
    let reads : Reads = reads_with (g.V.View.held c.args.view.now) (g.V.View.hints c.args.view.now) c.args.draft.now in
    let s = c.in_ok-separator.separator in
    (landing reads s.level Exclusive s.key most (start c.args.root Exclusive) c.in_ok-parent.parent.0 c.in_ok-parent.parent.1 c.in_ok-parent.ensures.end).below

pub put_in_parent-requires-clause-page : goal.put_in_parent-requires-clause-page
put_in_parent-requires-clause-page g c =
    let reads : Reads = reads_with (g.V.View.held c.args.view.now) (g.V.View.hints c.args.view.now) c.args.draft.now in
    let s = c.in_ok-separator.separator in
    (landing reads s.level Exclusive s.key most (start c.args.root Exclusive) c.in_ok-parent.parent.0 c.in_ok-parent.parent.1 c.in_ok-parent.ensures.end).has.spells.is

pub returns-in-Err-clause-at : goal.returns-in-Err-clause-at
returns-in-Err-clause-at g c =
    inr (inr (record {
      separator = c.in_ok-separator.separator;
      parent = c.in_ok-parent.parent.0;
      page = c.in_ok-parent.parent.1;
      finds = record { shows = c.in_ok-separator.ensures; found = c.in_ok-parent.ensures };
      puts = subst
          (λ (d : List Changed). PutsInParent (g.V.View.held c.args.view.now) d d c.args.root c.in_ok-parent.parent.0 c.in_ok-parent.parent.1 c.in_ok-separator.separator c.args.near.0 c.args.near.1 (Err c.in-Err.error))
          (c.in_ok-next.ensures c.blocks-blocks.ensures.draft) c.in-Err.ensures;
    }))

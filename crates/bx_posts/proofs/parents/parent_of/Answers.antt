use Rattle.std.proofs.Common.{List, ℕ, sym, subst}
use Rattle.bx_page.specs.Contents.{Contents}
use Rattle.bx_blink.specs.declared.steps.End.TheVariants.{Lands}
use Rattle.bx_blink.specs.Walks.{reads_with}
use Rattle.bx_posts.specs.Parents.{IsParentAt, ParentEnds}
use Rattle.bx_posts.proofs.parents.parent_of.Goals as goal

pub returns-in_ok-copied-in-Some : goal.returns-in_ok-copied-in-Some
returns-in_ok-copied-in-Some g c =
    subst
    (λ (page : Contents). IsParentAt (reads_with (g.V.View.held c.args.view.now) (g.V.View.hints c.args.view.now) c.args.draft.now) c.args.root c.args.separator.now.level c.args.separator.now.key c.in-Lands.handle page)
    (sym c.in_ok-copied-in-Some.ensures)
    (record {
      end = subst
          (λ (k : List ℕ). ParentEnds (reads_with (g.V.View.held c.args.view.now) (g.V.View.hints c.args.view.now) c.args.draft.now) c.args.root c.args.separator.now.level k (Lands c.in-Lands.handle c.in-Lands.page))
          c.bytes-key.ensures c.in-Lands.ensures;
      block = c.in-Some.field-0.now;
      held = rw c.block_at-at.ensures at (sym c.in-Some.ensures);
    })

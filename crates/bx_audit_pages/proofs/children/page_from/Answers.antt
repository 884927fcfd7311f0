use Rattle.std.proofs.Common.{rules, sym, ap, subst, ◌∙◌}
use Rattle.std.specs.Ordering.{nat_cmp}
use Rattle.std.specs.Cmp.Lexicographic.{slice_cmp}
use Rattle.std.proofs.lemmas.Fn.{always_returns_same}
use Rattle.bx_truth.specs.PageTrees.{IsIn, Node}
use Rattle.bx_audit_pages.proofs.NodeLists.{at_place, found_at, found_none}
use Rattle.bx_audit_pages.proofs.children.page_from.Goals as goal

pub returns-in-Err-clause-none : goal.returns-in-Err-clause-none
returns-in-Err-clause-none c = found_none c.args.pages.now c.args.key.now c.in-Err.field-0 c.requires c.in-Err.ensures.bound
    (c.in-Err.ensures.position (λ node. slice_cmp nat_cmp node.begins c.args.key.now) (always_returns_same _ _ _ (λ a r f k. (search rules, search rules))))

pub returns-in-Ok-clause-some : goal.returns-in-Ok-clause-some
returns-in-Ok-clause-some c =
    let page = c.index-pages-place.result in (
      subst (λ (x : Node). IsIn x c.args.pages.now) (sym c.index-pages-place.is) (at_place c.args.pages.now c.in-Ok.place page c.in-Ok.ensures.bound),
      ap (λ (x : Node). x.begins) c.index-pages-place.is ∙ found_at c.args.pages.now c.args.key.now c.in-Ok.place c.in-Ok.ensures.bound
          (c.in-Ok.ensures.position (λ node. slice_cmp nat_cmp node.begins c.args.key.now) (always_returns_same _ _ _ (λ a r f k. (search rules, search rules)))) page,
    )

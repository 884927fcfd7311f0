use Rattle.std.proofs.Common.{List, [], get_or, arith, sym, ap, subst, ◌∙◌}
use Rattle.std.specs.Prelude.{All}
use Rattle.std.specs.Option.{option_copied}
use Rattle.bx_page.specs.Contents.{value_of}
use Rattle.bx_page.specs.Keys.{IsBelow}
use Rattle.bx_truth.specs.PageTrees.{Node}
use Rattle.bx_audit_pages.specs.Leaves.{IsLeafFor}
use Rattle.bx_audit_pages.proofs.Lookups.{value_there, value_nowhere}
use Rattle.bx_audit_pages.proofs.trees.ReadTree.get.Goals as goal

pub returns-in_err-leaf : goal.returns-in_err-leaf
returns-in_err-leaf c = λ chunks root is.
    ap option_copied c.from_residual.ensures
    ∙ sym (value_nowhere chunks 0 c.args.key.now (get_or c.args.self.now 0 []) (is.levels 0 (omega arith))
    (subst (All (λ (node : Node). IsBelow c.args.key.now node.begins)) c.leaves.ensures.leaves c.in_err-leaf.ensures.none))

pub returns : goal.returns
returns c = λ chunks root is.
    let node = c.in_ok-leaf.leaf.now in
    c.get.ensures ∙ ap (λ (n : Node). value_of n.page.entries c.args.key.now) c.leaf.view_is
    ∙ sym (value_there chunks 0 c.args.key.now (get_or c.args.self.now 0 []) node (is.levels 0 (omega arith))
    (subst (λ (l : List Node). IsLeafFor l c.args.key.now node) c.leaves.ensures.leaves c.in_ok-leaf.ensures.some))

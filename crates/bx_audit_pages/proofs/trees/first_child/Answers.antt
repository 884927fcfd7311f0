use Rattle.std.proofs.Common.{sym, ap, subst}
use Rattle.bx_truth.specs.PageTrees.{Node}
use Rattle.bx_audit_pages.specs.Trees.{HasFirst}
use Rattle.bx_audit_pages.proofs.Firsts.{first_named}
use Rattle.bx_audit_pages.proofs.Torn.{first_there}
use Rattle.bx_audit_pages.proofs.trees.first_child.Goals as goal

pub returns-in-None-clause-torn : goal.returns-in-None-clause-torn
returns-in-None-clause-torn c =
    rw c.torn_at.ensures (λ handle names. c.in-None.ensures.none handle
    (subst (λ (n : Node). HasFirst n.page.entries handle) (sym c.page.view_is) (first_named c.args.above.now c.in-Some.page.now handle c.in-Some.ensures.value names)))

pub returns-in-None-clause-childless : goal.returns-in-None-clause-childless
returns-in-None-clause-childless c = λ some.
    rw c.torn_at.ensures (record {
      node = c.in-Some.page.now;
      there = first_there c.args.above.now c.in-Some.page.now c.in-Some.ensures.value;
      wrong = λ child first. c.in-None.ensures.none child (subst (λ (n : Node). HasFirst n.page.entries child) (sym c.page.view_is) first);
      wanted_is = ap (λ (n : Node). n.handle) c.page.view_is;
    })

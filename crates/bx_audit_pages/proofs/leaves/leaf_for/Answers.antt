use Rattle.std.proofs.Common.{rules, ◌-◌}
use Rattle.std.specs.Ordering.{nat_cmp}
use Rattle.std.specs.Cmp.Lexicographic.{slice_cmp}
use Rattle.std.proofs.lemmas.Fn.{always_returns_same}
use Rattle.bx_audit_pages.proofs.Lookups.{leaf_here, leaf_before, no_leaf, one_less}
use Rattle.bx_audit_pages.proofs.leaves.leaf_for.Goals as goal

pub returns-in-Ok-clause-some : goal.returns-in-Ok-clause-some
returns-in-Ok-clause-some c =
    leaf_here c.args.pages.now c.args.key.now c.in-Ok.at c.index-pages-at.result c.requires c.in-Ok.ensures.bound
    (c.in-Ok.ensures.position (λ node. slice_cmp nat_cmp node.begins c.args.key.now) (always_returns_same _ _ _ (λ a r f k. (search rules, search rules)))) c.index-pages-at.is

pub returns-in-Err-eq0-clause-none : goal.returns-in-Err-eq0-clause-none
returns-in-Err-eq0-clause-none c = no_leaf c.args.pages.now c.args.key.now c.in-Err-eq0.field-0 c.in-Err-eq0.field-0-test c.requires
    (c.in-Err-eq0.ensures.position (λ node. slice_cmp nat_cmp node.begins c.args.key.now) (always_returns_same _ _ _ (λ a r f k. (search rules, search rules))))

pub returns-in-Err-clause-some : goal.returns-in-Err-clause-some
returns-in-Err-clause-some c =
    leaf_before c.args.pages.now c.args.key.now c.in-Err.at (c.in-Err.at - 1) c.index-pages-at-in-Err.result (one_less c.in-Err.at c.in-Err.at-test.1) c.requires c.in-Err.ensures.bound
    (c.in-Err.ensures.position (λ node. slice_cmp nat_cmp node.begins c.args.key.now) (always_returns_same _ _ _ (λ a r f k. (search rules, search rules)))) c.index-pages-at-in-Err.is

use Rattle.std.proofs.Common.{sym, ap, subst, arith}
use Rattle.bx_truth.specs.PageTrees.{Node, IsIn, IsInterior}
use Rattle.bx_audit_pages.proofs.NodeLists.{at_place, all_in}
use Rattle.bx_audit_pages.specs.Leading.{IsLedTo}
use Rattle.bx_homes.proofs.Sectors.{not_both}
use Rattle.bx_audit_pages.proofs.children.lead_down.Goals as goal

pub returns-then-not-is_interior-clause-torn : goal.returns-then-not-is_interior-clause-torn
returns-then-not-is_interior-clause-torn c = rw c.torn_at.ensures (λ all.
    let page = c.page-item.result in
    let is = subst (λ (n : Node). IsIn n c.args.above.now) (sym c.page-item.is) (at_place c.args.above.now c.loop-page.page-index page c.loop-page-test.true) in
    not_both c.is_interior.result (c.is_interior.ensures.1 (all page is)) c.if-not-is_interior.true)

pub returns-clause-ok : goal.returns-clause-ok
returns-clause-ok c = all_in (IsInterior c.args.below.now) c.args.above.now (λ k d less. c.loop-page.invariant k d (omega (arith, less, c.loop-page-test.false)))

pub returns-then-not-is_interior-clause-led : goal.returns-then-not-is_interior-clause-led
returns-then-not-is_interior-clause-led c = rw c.torn_at.ensures (λ chunks root led.
    let page = c.page-item.result in
    let is = subst (λ (n : Node). IsIn n c.args.above.now) (sym c.page-item.is) (at_place c.args.above.now c.loop-page.page-index page c.loop-page-test.true) in
    subst (λ (n : Node). IsLedTo chunks root n.handle) (sym c.page.view_is) (all_in (λ (n : Node). IsLedTo chunks root n.handle) c.args.above.now led page is))

pub returns-then-not-is_interior-clause-astray : goal.returns-then-not-is_interior-clause-astray
returns-then-not-is_interior-clause-astray c = rw c.torn_at.ensures (
    let page = c.page-item.result in
    let is = subst (λ (n : Node). IsIn n c.args.above.now) (sym c.page-item.is) (at_place c.args.above.now c.loop-page.page-index page c.loop-page-test.true) in
    record {
      node = page;
      there = is;
      wrong = λ interior. not_both c.is_interior.result (c.is_interior.ensures.1 interior) c.if-not-is_interior.true;
      wanted_is = ap (λ (n : Node). n.handle) c.page.view_is;
    })

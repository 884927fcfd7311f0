use Rattle.std.proofs.Common.{ℕ, None, sym, ap, subst, ◌∙◌, arith}
use Rattle.bx_page.specs.Contents.{Contents, IsPage}
use Rattle.bx_splits.specs.Splits.{root_entries}
use Rattle.bx_splits.proofs.Enough.{middle_above}
use Rattle.bx_splits.proofs.RaiseSteps.{root_fail, root_put}
use Rattle.bx_splits.proofs.raising.raise.Goals as goal

pub page_above-requires-clause-middle : goal.page_above-requires-clause-middle
page_above-requires-clause-middle g c =
    middle_above c.args.page c.in_ok-left.right c.in-Some-high.middle.now (subst IsPage c.page.view_is c.page.invariant) c.requires
    (ap (λ (p : Contents). p.high) (sym c.in_ok-other.ensures.kept) ∙ sym c.in-Some-high.ensures)

pub returns : goal.returns
returns g c =
    root_fail (g.V.View.held c.args.view.now) c.args.draft.now c.take_two.new.draft c.put_raised.new.draft c.args.root c.args.page c.args.near.0 c.args.near.1 c.in_ok-left.left c.in_ok-left.right c.in_ok-left.ensures
    c.halve.new.self c.in_ok-other.other c.in_ok-top.top c.in_ok-other.ensures.kept c.in_ok-other.ensures.given c.in-Err.error c.in-Err.ensures

pub returns-in-Ok : goal.returns-in-Ok
returns-in-Ok g c =
    root_put (g.V.View.held c.args.view.now) c.args.draft.now c.take_two.new.draft c.put_raised.new.draft c.args.root c.args.page c.args.near.0 c.args.near.1 c.in_ok-left.left c.in_ok-left.right c.in_ok-left.ensures
    c.halve.new.self c.in_ok-other.other c.in_ok-top.top c.in_ok-other.ensures.kept c.in_ok-other.ensures.given c.in-Some-high.middle.now
    (ap (λ (p : Contents). p.high) (sym c.in_ok-other.ensures.kept) ∙ sym c.in-Some-high.ensures)
    (c.in_ok-top.ensures ∙ ap (λ (l : ℕ). record { level = l; right = 0; high = None; entries = root_entries c.in_ok-left.left c.in_ok-left.right c.in-Some-high.middle.now }) (let a = c.in-Some.ensures in let b = c.level.ensures in omega (arith, a, b)))
    c.in-Ok.ensures

use Rattle.std.proofs.Common.{ℕ, Err, ap, arith, refl, sym, subst, ◌∙◌}
use Rattle.bx_truth.specs.PageTrees.{handle_in}
use Rattle.bx_clean.specs.Held.{HoldsPage, PageAt}
use Rattle.bx_clean.specs.Trees.{ShrinksBelow, many, single, unread}
use Rattle.bx_clean.proofs.trees.shrink_above.Goals as goal

pub returns-then-len-gt1 : goal.returns-then-len-gt1
returns-then-len-gt1 g c = many (let n = c.len.ensures in let f = c.if-len-gt1.true in omega (arith, n, f)) c.strip.ensures

pub returns-in-Err : goal.returns-in-Err
returns-in-Err g c =
    unread c.in-Some.first.now c.in-Err.error (let n = c.len.ensures in let f = c.if-len-gt1.false in omega (arith, n, f)) (sym c.in-Some.ensures)
    (subst (λ (h : ℕ). PageAt (g.V.View.held c.args.view.now) c.args.areas h (Err c.in-Err.error)) (c.handle_in-child.ensures ∙ ap handle_in c.bytes.ensures) c.in-Err.ensures) refl

pub returns-in-Ok : goal.returns-in-Ok
returns-in-Ok g c =
    single c.in-Some.first.now c.in-Ok.below (let n = c.len.ensures in let f = c.if-len-gt1.false in omega (arith, n, f)) (sym c.in-Some.ensures)
    (subst (λ (h : ℕ). HoldsPage (g.V.View.held c.args.view.now) c.args.areas h c.in-Ok.below) (c.handle_in-child.ensures ∙ ap handle_in c.bytes.ensures) c.in-Ok.ensures)
    (subst (λ (h : ℕ). ShrinksBelow (g.V.View.held c.args.view.now) c.args.areas c.args.root h c.in-Ok.below c.shrink_below.result) (c.handle_in-child.ensures ∙ ap handle_in c.bytes.ensures) c.shrink_below.ensures)

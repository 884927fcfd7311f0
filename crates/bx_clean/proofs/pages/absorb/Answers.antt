use Rattle.std.proofs.Common.{arith, sym, refl, ◌∙◌, subst, ℕ, ◌<◌, Err}
use Rattle.bx_clean.specs.Held.{HoldsPage, PageAt}
use Rattle.bx_clean.specs.Pages.{stops, leaf, fails, inner}
use Rattle.bx_clean.specs.Puts.{PutsAndFrees}
use Rattle.bx_clean.proofs.pages.absorb.Goals as goal

pub returns-then-level-eq0 : goal.returns-then-level-eq0
returns-then-level-eq0 g c =
    leaf c.in-Ok.next (subst (λ (h : ℕ). HoldsPage (g.V.View.held c.args.view.now) c.args.areas h c.in-Ok.next) c.right-right.ensures c.in-Ok.ensures)
    (sym c.level.ensures ∙ c.if-level-eq0.true)
    (subst (λ (h : ℕ). PutsAndFrees (g.V.View.held c.args.view.now) c.args.areas c.args.handle c.in-Ok.next h c.put_and_free.result) c.right-right.ensures c.put_and_free.ensures)

pub returns-in-Err : goal.returns-in-Err
returns-in-Err g c =
    stops c.in-Err.error (subst (λ (h : ℕ). PageAt (g.V.View.held c.args.view.now) c.args.areas h (Err c.in-Err.error)) c.right-right.ensures c.in-Err.ensures) refl

pub returns-in-Err-led_by : goal.returns-in-Err-led_by
returns-in-Err-led_by g c =
    let above : 0 < c.args.page.now.level = let e = c.level.ensures in let f = c.if-level-eq0.false in omega (arith, e, f) in
    fails c.in-Ok.next c.in-Err-led_by.error (subst (λ (h : ℕ). HoldsPage (g.V.View.held c.args.view.now) c.args.areas h c.in-Ok.next) c.right-right.ensures c.in-Ok.ensures)
    above c.in-Err-led_by.ensures refl

pub returns-in-Ok-led_by : goal.returns-in-Ok-led_by
returns-in-Ok-led_by g c =
    let above : 0 < c.args.page.now.level = let e = c.level.ensures in let f = c.if-level-eq0.false in omega (arith, e, f) in
    inner c.in-Ok.next c.in-Ok-led_by.led (subst (λ (h : ℕ). HoldsPage (g.V.View.held c.args.view.now) c.args.areas h c.in-Ok.next) c.right-right.ensures c.in-Ok.ensures)
    above c.in-Ok-led_by.ensures
    (subst (λ (h : ℕ). PutsAndFrees (g.V.View.held c.args.view.now) c.args.areas c.args.handle c.in-Ok-led_by.led h c.put_and_free-in-Ok-led_by.result) c.right-right.ensures c.put_and_free-in-Ok-led_by.ensures)

use Rattle.std.proofs.Common.{subst, Option, ℕ}
use Rattle.bx_clean.specs.Pages.{TakesFirst}
use Rattle.bx_clean.proofs.Takes.{led_err, led_ok}
use Rattle.bx_clean.proofs.pages.led_by.Goals as goal

pub returns-in-Ok : goal.returns-in-Ok
returns-in-Ok c =
    led_ok c.args.page c.take_first.new.page c.put_first.new.page c.args.other.now c.in-Some.first.now c.in-Some-2.field-0
    (subst (λ (found : Option ℕ). TakesFirst c.args.page c.take_first.new.page found) c.in-Some-2.is c.in_ok-take_first.ensures) c.in-Some.ensures c.in-Ok.ensures

pub returns-in-Err : goal.returns-in-Err
returns-in-Err c =
    led_err c.args.page c.take_first.new.page c.put_first.new.page c.args.other.now c.in-Some.first.now c.in-Some-2.field-0
    (subst (λ (found : Option ℕ). TakesFirst c.args.page c.take_first.new.page found) c.in-Some-2.is c.in_ok-take_first.ensures) c.in-Some.ensures c.in-Err.error c.in-Err.ensures

use Rattle.std.proofs.Common.{subst, Option, ℕ}
use Rattle.bx_clean.specs.Pages.{TakesFirst}
use Rattle.bx_clean.proofs.Takes.{cuts_of}
use Rattle.bx_clean.proofs.pages.cut.Goals as goal

pub returns : goal.returns
returns g c =
    cuts_of (g.V.View.held c.args.view.now) c.args.areas c.args.handle c.in-Some.piece c.args.page c.take_first.new.page c.put_and_free.result
    (subst (λ (found : Option ℕ). TakesFirst c.args.page c.take_first.new.page found) c.in-Some.is c.in_ok-take_first.ensures) c.put_and_free.ensures

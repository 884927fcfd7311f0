use Rattle.std.proofs.Common.{◌≡◌, List, Contains, sym, ap, subst}
use Rattle.bx_base.specs.declared.names.Actor.{Actor}
use Rattle.bx_plain.specs.Standing.{Plain}
use Rattle.bx_plain.proofs.Machines.{others_stay, others_were, none_left}
use Rattle.bx_plain.proofs.register.PlainRegisterRegister.restart.Goals as goal

pub returns-clause-others : goal.returns-clause-others
returns-clause-others g c =
    let same : c.self.inside.busy.items ≡ c.args.self.now.busy = ap (λ (p : Plain). p.busy) c.self.view_is in
    record {
      stay = λ other apart has. subst (λ (xs : List Actor). Contains xs other) (sym c.take_out.ensures) (others_stay c.args.who other c.self.inside.busy.items apart (subst (λ (xs : List Actor). Contains xs other) (sym same) has));
      came = λ other apart has. subst (λ (xs : List Actor). Contains xs other) same (others_were c.args.who other c.self.inside.busy.items (subst (λ (xs : List Actor). Contains xs other) c.take_out.ensures has));
    }

pub returns-clause-idle : goal.returns-clause-idle
returns-clause-idle g c = λ has. none_left c.args.who c.self.inside.busy.items (subst (λ (xs : List Actor). Contains xs c.args.who) c.take_out.ensures has)

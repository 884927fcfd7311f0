use Rattle.std.proofs.Common.{refl, ap, subst}
use Rattle.bx_global.specs.Allowed.{IsAllowed}
use Rattle.bx_plain.specs.Standing.{Plain}
use Rattle.bx_plain.proofs.register.PlainRegisterRegister.format.Goals as goal

pub returns-clause-keeps : goal.returns-clause-keeps
returns-clause-keeps g c = λ tells new. record { changes = refl; first = refl; allowed = subst IsAllowed (ap (λ (p : Plain). p.state) c.self.view_is) c.self.invariant.allowed }

use Rattle.std.proofs.Common.{refl}
use Rattle.bx_recover.specs.Recovering.{first_recovery}
use Rattle.bx_recover.proofs.Done.{what_was_done}
use Rattle.bx_recover.proofs.laws.what_a_recovery_did.Goals as goal

pub returns : goal.returns
returns c = λ slot devices areas steps recovery led. what_was_done (first_recovery slot devices areas) refl refl steps recovery led

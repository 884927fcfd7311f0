use Rattle.std.proofs.Common.{◌∷◌, refl, subst}
use Rattle.bx_recover.specs.Recovering.{RecoveryGoesOn, first_recovery}
use Rattle.bx_recover.specs.declared.moves.Move.{Move}
use Rattle.bx_recover.proofs.Done.{what_was_done}
use Rattle.bx_recover.proofs.Orders.{homes_after, shut_after}
use Rattle.bx_recover.proofs.laws.what_comes_before_a_write.Goals as goal

pub returns-clause-homes : goal.returns-clause-homes
returns-clause-homes c = λ slot devices areas steps old new step runs led went said home.
    homes_after old new steps runs home old.stage (what_was_done (first_recovery slot devices areas) refl refl steps old led) step.arrived step.done
    (subst (λ (move : Move). RecoveryGoesOn old step.arrived step.done new move old.stage) said went)

pub returns-clause-closes : goal.returns-clause-closes
returns-clause-closes c = λ slot devices areas steps old new step runs led went said shut.
    shut_after old new steps runs shut (step ∷ steps) (what_was_done (first_recovery slot devices areas) refl refl (step ∷ steps) new (old, led, went)) old.stage step.arrived step.done
    (subst (λ (move : Move). RecoveryGoesOn old step.arrived step.done new move old.stage) said went)

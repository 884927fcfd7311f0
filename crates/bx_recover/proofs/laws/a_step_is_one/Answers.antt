use Rattle.bx_recover.proofs.Exact.{one_step}
use Rattle.bx_recover.proofs.laws.a_step_is_one.Goals as goal

pub returns : goal.returns
returns c = λ old new other arrived done move another steps steps_too. one_step old new other move another old.stage arrived done steps steps_too

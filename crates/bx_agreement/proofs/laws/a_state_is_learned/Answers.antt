use Rattle.bx_agreement.proofs.Events.{at_learning}
use Rattle.bx_agreement.proofs.laws.a_state_is_learned.Goals as goal

pub returns : goal.returns
returns c = at_learning

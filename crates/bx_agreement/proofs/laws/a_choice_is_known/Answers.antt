use Rattle.bx_agreement.proofs.Events.{at_choice}
use Rattle.bx_agreement.proofs.laws.a_choice_is_known.Goals as goal

pub returns : goal.returns
returns c = at_choice

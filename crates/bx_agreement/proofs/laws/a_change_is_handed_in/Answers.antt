use Rattle.bx_agreement.proofs.Events.{at_change}
use Rattle.bx_agreement.proofs.laws.a_change_is_handed_in.Goals as goal

pub returns : goal.returns
returns c = at_change

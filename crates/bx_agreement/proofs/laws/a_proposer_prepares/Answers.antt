use Rattle.bx_agreement.proofs.Events.{at_prepare}
use Rattle.bx_agreement.proofs.laws.a_proposer_prepares.Goals as goal

pub returns : goal.returns
returns c = at_prepare

use Rattle.bx_agreement.proofs.Events.{at_second_promise}
use Rattle.bx_agreement.proofs.laws.a_proposer_sends.Goals as goal

pub returns : goal.returns
returns c = at_second_promise

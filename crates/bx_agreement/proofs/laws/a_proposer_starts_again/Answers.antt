use Rattle.bx_agreement.proofs.Events.{at_restart}
use Rattle.bx_agreement.proofs.laws.a_proposer_starts_again.Goals as goal

pub returns : goal.returns
returns c = at_restart

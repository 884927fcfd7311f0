use Rattle.bx_agreement.proofs.Events.{at_replica}
use Rattle.bx_agreement.proofs.laws.a_replica_answers.Goals as goal

pub returns : goal.returns
returns c = at_replica

use Rattle.bx_rounds.proofs.Agreeing.{starts, stops}
use Rattle.bx_rounds.proofs.laws.a_proposer_starts_again.Goals as goal

pub returns-clause-stops : goal.returns-clause-stops
returns-clause-stops c = λ h cells old new me course to stands is e turns. stops h cells old new me stands to turns course is e

pub returns-clause-starts : goal.returns-clause-starts
returns-clause-starts c = λ h cells old new me course to later reading first stands is above place e turns. starts h cells old new me stands to turns course later reading first is above place e

use Rattle.bx_agreement.proofs.Begins.{begins, found_knows}
use Rattle.bx_agreement.proofs.laws.cells_begin.Goals as goal

pub returns-clause-sound : goal.returns-clause-sound
returns-clause-sound c = begins

pub returns-clause-found : goal.returns-clause-found
returns-clause-found c = found_knows

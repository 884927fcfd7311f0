use Rattle.bx_engine.proofs.OneStep.{entered, one_next}
use Rattle.bx_engine.proofs.laws.steps_are_of_histories.Goals as goal

pub returns-clause-enters : goal.returns-clause-enters
returns-clause-enters c = entered

pub returns-clause-one : goal.returns-clause-one
returns-clause-one c = one_next

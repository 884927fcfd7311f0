use Rattle.bx_rounds.proofs.Leading.{hears_on, ticks_on}
use Rattle.bx_rounds.proofs.laws.steps_lead_on.Goals as goal

pub returns-clause-hears : goal.returns-clause-hears
returns-clause-hears c = hears_on

pub returns-clause-ticks : goal.returns-clause-ticks
returns-clause-ticks c = ticks_on

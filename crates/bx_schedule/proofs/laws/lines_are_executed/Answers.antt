use Rattle.bx_base.specs.Faults.{Rose}
use Rattle.bx_schedule.proofs.Executions.{delivers, goes_on, holds, rests}
use Rattle.bx_schedule.proofs.laws.lines_are_executed.Goals as goal

pub returns-clause-rests : goal.returns-clause-rests
returns-clause-rests c = λ first now. rests (Rose first now)

pub returns-clause-delivers : goal.returns-clause-delivers
returns-clause-delivers c = λ first now. delivers (Rose first now)

pub returns-clause-goes_on : goal.returns-clause-goes_on
returns-clause-goes_on c = λ first now reading limit parts from to. goes_on (Rose first now) reading limit from to parts

pub returns-clause-holds : goal.returns-clause-holds
returns-clause-holds c = λ first now kind a b. holds (Rose first now) a b kind

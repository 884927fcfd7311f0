use Rattle.bx_base.specs.Faults.{Rose}
use Rattle.bx_schedule.proofs.Lasting.{at_least, at_most}
use Rattle.bx_schedule.proofs.laws.down_by_lines.Goals as goal

pub returns-clause-least : goal.returns-clause-least
returns-clause-least c = at_least

pub returns-clause-most : goal.returns-clause-most
returns-clause-most c = λ first now. at_most (Rose first now)

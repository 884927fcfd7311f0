use Rattle.std.proofs.Common.{sym, ◌∙◌}
use Rattle.bx_base.specs.Faults.{Rose}
use Rattle.bx_schedule.proofs.Placings.{down_goes_on, line_many, parts_placed, same_nodes}
use Rattle.bx_schedule.proofs.laws.lines_are_placed.Goals as goal

pub returns-clause-parts : goal.returns-clause-parts
returns-clause-parts c = λ first now held before line from to steps is may nodes by_lines. parts_placed (Rose first now) before from to steps may held line is nodes by_lines

pub returns-clause-down : goal.returns-clause-down
returns-clause-down c = λ first now held before line from to steps is may by_lines. down_goes_on (Rose first now) before from to steps may held line is by_lines

pub returns-clause-nodes : goal.returns-clause-nodes
returns-clause-nodes c = λ held before line from to steps behind is nodes. (line_many held line from to steps is).nodes ∙ nodes ∙ sym (same_nodes line before behind)

pub returns-clause-many : goal.returns-clause-many
returns-clause-many c = line_many

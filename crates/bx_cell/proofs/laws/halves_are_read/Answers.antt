use Rattle.bx_cell.proofs.Words.{half_has, has_half, half_none, none_half}
use Rattle.bx_cell.proofs.laws.halves_are_read.Goals as goal

pub returns-clause-some : goal.returns-clause-some
returns-clause-some c = λ sectors half start found. (half_has sectors half start found, has_half sectors half start found)

pub returns-clause-none : goal.returns-clause-none
returns-clause-none c = λ sectors half start. (half_none sectors half start, none_half sectors half start)

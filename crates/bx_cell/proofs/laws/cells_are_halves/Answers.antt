use Rattle.bx_cell.proofs.Chosen.{found_is, is_found}
use Rattle.bx_cell.proofs.Words.{none_halves, halves_none}
use Rattle.bx_cell.proofs.laws.cells_are_halves.Goals as goal

pub returns-clause-some : goal.returns-clause-some
returns-clause-some c = λ sectors base found. (found_is sectors base found, is_found sectors base found)

pub returns-clause-none : goal.returns-clause-none
returns-clause-none c = λ sectors base. (none_halves sectors base, λ both. halves_none sectors base both.0 both.1)

use Rattle.bx_page.proofs.Maps.{first_half_value, other_half_value}
use Rattle.bx_page.proofs.laws.halves_are_the_page.Goals as goal

pub returns-clause-first : goal.returns-clause-first
returns-clause-first c = λ page right key middle is high lt. first_half_value page right key middle is.rises high lt

pub returns-clause-other : goal.returns-clause-other
returns-clause-other c = λ page right key middle is high not_lt. other_half_value page right key middle is.rises high not_lt

use Rattle.bx_truth.proofs.Fresh.{never_given, none_there}
use Rattle.bx_truth.proofs.chunks.a_taken_handle_is_new.Goals as goal

pub returns-clause-never : goal.returns-clause-never
returns-clause-never c = λ areas truth now tree block slots few slot takes is. never_given areas few truth now tree block slots slot takes is

pub returns-clause-none : goal.returns-clause-none
returns-clause-none c = λ areas truth now tree block slots few slot takes is. none_there areas few truth now tree block slots slot takes is

use Rattle.bx_clean.proofs.Fewer.{all_fall, fewer_used, no_more_used}
use Rattle.bx_clean.proofs.step_laws.frees_come_to_an_end.Goals as goal

pub returns-clause-frees : goal.returns-clause-frees
returns-clause-frees c = λ areas truth now few f. fewer_used areas truth now few f

pub returns-clause-strips : goal.returns-clause-strips
returns-clause-strips c = λ areas truth now few s. no_more_used areas truth now few s

pub returns-clause-all : goal.returns-clause-all
returns-clause-all c = λ areas steps truth last few run. all_fall areas steps truth last few run

use Rattle.bx_overlay.proofs.Over.{are_agreed, are_blocks, is_truth}
use Rattle.bx_overlay.proofs.laws.what_stands_is_the_truth.Goals as goal

pub returns-clause-truth : goal.returns-clause-truth
returns-clause-truth c = λ image members rows logs newest truth are of. is_truth image members rows logs newest are of truth

pub returns-clause-stands : goal.returns-clause-stands
returns-clause-stands c = λ image members rows logs newest others truth are of. are_blocks image members rows logs newest are of truth others

pub returns-clause-agreed : goal.returns-clause-agreed
returns-clause-agreed c = λ image members rows logs newest others truth are of. are_agreed image members rows logs newest are of truth others

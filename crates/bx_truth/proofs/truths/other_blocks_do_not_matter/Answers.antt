use Rattle.bx_truth.proofs.Same.{stands_same}
use Rattle.bx_truth.proofs.truths.other_blocks_do_not_matter.Goals as goal

pub returns : goal.returns
returns c = λ areas truth other tree same is. stands_same areas truth other same tree is

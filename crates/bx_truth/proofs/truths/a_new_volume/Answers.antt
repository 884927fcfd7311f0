use Rattle.bx_truth.proofs.OpeningBlocks.{opening_has}
use Rattle.bx_truth.proofs.OpeningSlots.{opening_chunked}
use Rattle.bx_truth.proofs.OpeningTree.{opening_stands}
use Rattle.bx_truth.proofs.truths.a_new_volume.Goals as goal

pub returns-clause-blocks : goal.returns-clause-blocks
returns-clause-blocks c = opening_has

pub returns-clause-chunked : goal.returns-clause-chunked
returns-clause-chunked c = opening_chunked

pub returns-clause-tree : goal.returns-clause-tree
returns-clause-tree c = λ areas volume some. opening_stands areas some volume

use Rattle.bx_truth.proofs.SampleFiles.{sample_stands}
use Rattle.bx_truth.proofs.SampleTree.{sample_tree_is}
use Rattle.bx_truth.proofs.sample.a_volume_with_files.Goals as goal

pub returns-clause-stands : goal.returns-clause-stands
returns-clause-stands c = sample_stands

pub returns-clause-tree : goal.returns-clause-tree
returns-clause-tree c = sample_tree_is

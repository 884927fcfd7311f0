use Rattle.bx_truth.proofs.Splits.{tree_split}
use Rattle.bx_truth.proofs.page_trees.a_tree_is_split.Goals as goal

pub returns : goal.returns
returns c = tree_split

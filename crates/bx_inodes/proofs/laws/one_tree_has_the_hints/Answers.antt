use Rattle.bx_inodes.proofs.Trees.{fit_other}
use Rattle.bx_inodes.proofs.laws.one_tree_has_the_hints.Goals as goal

pub returns : goal.returns
returns c = fit_other

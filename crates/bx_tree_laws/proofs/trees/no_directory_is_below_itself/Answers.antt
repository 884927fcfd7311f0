use Rattle.bx_tree_laws.proofs.Below.{below_root, not_below_itself}
use Rattle.bx_tree_laws.proofs.trees.no_directory_is_below_itself.Goals as goal

pub returns-clause-itself : goal.returns-clause-itself
returns-clause-itself c = λ tree directory way was leads. not_below_itself tree was directory way leads

pub returns-clause-root : goal.returns-clause-root
returns-clause-root c = λ tree handle file was is apart. below_root tree was handle file is apart

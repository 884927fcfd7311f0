use Rattle.bx_tree_laws.proofs.Laws.{one_name, parent_is_where}
use Rattle.bx_tree_laws.proofs.trees.a_directory_has_one_name.Goals as goal

pub returns-clause-root : goal.returns-clause-root
returns-clause-root c = λ tree was. was.root_unnamed

pub returns-clause-one : goal.returns-clause-one
returns-clause-one c = one_name

pub returns-clause-parent : goal.returns-clause-parent
returns-clause-parent c = parent_is_where

pub returns-clause-named : goal.returns-clause-named
returns-clause-named c = λ tree handle file was is apart. was.named handle file is apart

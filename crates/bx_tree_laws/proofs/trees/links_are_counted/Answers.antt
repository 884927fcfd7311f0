use Rattle.bx_tree_laws.proofs.Laws.{directory_links}
use Rattle.bx_tree_laws.proofs.Members.{links_are_names}
use Rattle.bx_tree_laws.proofs.trees.links_are_counted.Goals as goal

pub returns-clause-file : goal.returns-clause-file
returns-clause-file c = λ tree handle file was is other. links_are_names tree was handle file is other

pub returns-clause-directory : goal.returns-clause-directory
returns-clause-directory c = directory_links

use Rattle.bx_tree_laws.proofs.Laws.{handles_apart, one_file}
use Rattle.bx_tree_laws.proofs.Rises.{at_contained}
use Rattle.bx_tree_laws.proofs.trees.handles_tell_files_apart.Goals as goal

pub returns-clause-apart : goal.returns-clause-apart
returns-clause-apart c = handles_apart

pub returns-clause-one : goal.returns-clause-one
returns-clause-one c = one_file

pub returns-clause-found : goal.returns-clause-found
returns-clause-found c = λ tree file was there. at_contained tree.files file was.rise there

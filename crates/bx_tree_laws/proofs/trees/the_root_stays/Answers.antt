use Rattle.bx_tree_laws.proofs.Acts.{act_follows}
use Rattle.bx_tree_laws.proofs.Laws.{root_directory}
use Rattle.bx_tree_laws.proofs.trees.the_root_stays.Goals as goal

pub returns-clause-there : goal.returns-clause-there
returns-clause-there c = root_directory

pub returns-clause-stays : goal.returns-clause-stays
returns-clause-stays c = λ tree call moment spare made reply next was fits acts. (act_follows tree call moment spare made reply next was fits acts).grows.root

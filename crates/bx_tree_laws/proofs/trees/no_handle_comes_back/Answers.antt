use Rattle.bx_tree_laws.proofs.Acts.{act_follows}
use Rattle.bx_tree_laws.proofs.Laws.{never_back}
use Rattle.bx_tree_laws.proofs.trees.no_handle_comes_back.Goals as goal

pub returns-clause-given : goal.returns-clause-given
returns-clause-given c = λ tree handle file was is. was.was_given handle file is

pub returns-clause-stays : goal.returns-clause-stays
returns-clause-stays c = λ tree call moment spare made reply next handle was fits acts given. (act_follows tree call moment spare made reply next was fits acts).grows.given handle given

pub returns-clause-gone : goal.returns-clause-gone
returns-clause-gone c = never_back

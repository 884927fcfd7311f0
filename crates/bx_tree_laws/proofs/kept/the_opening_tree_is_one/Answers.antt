use Rattle.bx_tree_laws.proofs.Opening.{opening_is}
use Rattle.bx_tree_laws.proofs.kept.the_opening_tree_is_one.Goals as goal

pub returns-clause-opening : goal.returns-clause-opening
returns-clause-opening c = λ volume. opening_is volume 1

pub returns-clause-areas : goal.returns-clause-areas
returns-clause-areas c = opening_is

use Rattle.bx_tree_laws.proofs.Laws.{fit_kept}
use Rattle.bx_tree_laws.proofs.Opening.{opening_fits}
use Rattle.bx_tree_laws.proofs.trees.handles_have_64_bits.Goals as goal

pub returns-clause-opening : goal.returns-clause-opening
returns-clause-opening c = opening_fits

pub returns-clause-step : goal.returns-clause-step
returns-clause-step c = fit_kept

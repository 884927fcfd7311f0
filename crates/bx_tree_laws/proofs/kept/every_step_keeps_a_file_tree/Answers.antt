use Rattle.bx_tree_laws.proofs.Acts.{acts_keep, steps_keep}
use Rattle.bx_tree_laws.proofs.kept.every_step_keeps_a_file_tree.Goals as goal

pub returns-clause-step : goal.returns-clause-step
returns-clause-step c = acts_keep

pub returns-clause-history : goal.returns-clause-history
returns-clause-history c = steps_keep

use Rattle.bx_global.proofs.Begins.{formatted_allowed, opening_allowed}
use Rattle.bx_global_laws.proofs.laws.begins_allowed.Goals as goal

pub returns-clause-opening : goal.returns-clause-opening
returns-clause-opening c = opening_allowed

pub returns-clause-formatted : goal.returns-clause-formatted
returns-clause-formatted c = formatted_allowed

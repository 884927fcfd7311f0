use Rattle.bx_locks.proofs.Beginning.{are_new, formatted_for, none_beyond, opening_for}
use Rattle.bx_locks.proofs.laws.made_for.Goals as goal

pub returns-clause-opening : goal.returns-clause-opening
returns-clause-opening c = opening_for

pub returns-clause-formatted : goal.returns-clause-formatted
returns-clause-formatted c = formatted_for

pub returns-clause-are_new : goal.returns-clause-are_new
returns-clause-are_new c = are_new

pub returns-clause-nobody : goal.returns-clause-nobody
returns-clause-nobody c = none_beyond

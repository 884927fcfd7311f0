use Rattle.bx_base.proofs.Machines.{before_not_itself, before_then, one_before}
use Rattle.bx_base.proofs.laws.machines_are_in_order.Goals as goal

pub returns-clause-irreflexive : goal.returns-clause-irreflexive
returns-clause-irreflexive c = before_not_itself

pub returns-clause-transitive : goal.returns-clause-transitive
returns-clause-transitive c = before_then

pub returns-clause-total : goal.returns-clause-total
returns-clause-total c = one_before

use Rattle.bx_locks.proofs.Keeping.{restart_keeps}
use Rattle.bx_locks.proofs.owners.LocksOwners.restart.Goals as goal

pub returns-clause-keeps : goal.returns-clause-keeps
returns-clause-keeps c = λ past keeps may. restart_keeps c.args.who c.args.boot c.args._reading c.args.self.now c.restart.new.self past keeps may c.restart.ensures.restarts c.restart.ensures.only

use Rattle.std.proofs.Common.{sym, subst}
use Rattle.bx_facts.specs.Holds.{owners_crashed}
use Rattle.bx_lock_machines.proofs.Stopping.{crashes}
use Rattle.bx_lock_machines.specs.Keeps.{Keeps}
use Rattle.bx_locks.specs.Machines.{LockMachines, clerk_of, master_of, nodes_of}
use Rattle.bx_locks.proofs.Keeping.{all_clerks, all_masters}
use Rattle.bx_locks.proofs.owners.LocksOwners.crash.Goals as goal

pub returns-clause-keeps : goal.returns-clause-keeps
returns-clause-keeps c = λ past keeps.
    let o = c.args.self.now in
    let new = c.crash.new.self in
    subst (λ (old : LockMachines). Keeps (nodes_of old) (master_of new) (clerk_of new) (owners_crashed past c.args.who)) (sym c.crash.ensures)
    (crashes (nodes_of o) (master_of o) (master_of new) (clerk_of o) (clerk_of new) past c.args.who (all_masters o new c.crash.ensures) (all_clerks o new c.crash.ensures) keeps)

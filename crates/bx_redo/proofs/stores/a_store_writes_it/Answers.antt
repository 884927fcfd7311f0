use Rattle.bx_facts.specs.Writes.{IsSettled}
use Rattle.bx_redo.proofs.Stored.{done_stored, its_sectors, stays_out}
use Rattle.bx_redo.proofs.stores.a_store_writes_it.Goals as goal

pub returns-clause-sectors : goal.returns-clause-sectors
returns-clause-sectors c = λ log write d s content some asks. its_sectors log write some asks d s content

pub returns-clause-out : goal.returns-clause-out
returns-clause-out c = λ disks disks_then state state_then. stays_out (IsSettled disks state) (IsSettled disks_then state_then)

pub returns-clause-done : goal.returns-clause-done
returns-clause-done c = λ disks disks_then state state_then log write before index some asks.
    done_stored log write some asks (IsSettled disks state) (IsSettled disks_then state_then) before index

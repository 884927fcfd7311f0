use Rattle.bx_facts.specs.Writes.{IsSettled}
use Rattle.bx_redo.proofs.Back.{all_stay, done_back}
use Rattle.bx_redo.proofs.stores.a_store_writes_gates_back.Goals as goal

pub returns-clause-out : goal.returns-clause-out
returns-clause-out c = λ disks disks_then state state_then log second bytes sent greatest source long.
    all_stay log bytes long disks state (IsSettled disks_then state_then) second sent greatest source

pub returns-clause-done : goal.returns-clause-done
returns-clause-done c = λ disks disks_then state state_then log bytes write before index long.
    done_back log bytes long (IsSettled disks state) (IsSettled disks_then state_then) write before index

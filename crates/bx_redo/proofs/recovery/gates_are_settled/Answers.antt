use Rattle.bx_facts.specs.Writes.{IsSettled}
use Rattle.bx_redo.proofs.Settles.{settled}
use Rattle.bx_redo.proofs.recovery.gates_are_settled.Goals as goal

pub returns : goal.returns
returns c = λ disks disks_then state state_then devices areas rows before now logs truth more log bytes st.
    settled (IsSettled disks state) (IsSettled disks_then state_then) devices areas rows before now logs truth more log bytes log.work st

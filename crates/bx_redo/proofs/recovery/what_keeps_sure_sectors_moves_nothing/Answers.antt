use Rattle.bx_facts.specs.Writes.{IsSettled}
use Rattle.bx_redo.proofs.Begins.{kept_settled}
use Rattle.bx_redo.proofs.Begun.{stays}
use Rattle.bx_redo.proofs.recovery.what_keeps_sure_sectors_moves_nothing.Goals as goal

pub returns : goal.returns
returns c = λ disks disks_then state devices areas rows before logs truth more log kept st.
    stays (IsSettled disks state) (IsSettled disks_then state) devices areas rows before logs truth more log log.out st
    (λ d s content apart. kept_settled disks disks_then state kept d s content)

use Rattle.bx_facts.specs.Writes.{IsSettled}
use Rattle.bx_redo.proofs.Homes.{found_idle}
use Rattle.bx_redo.proofs.recovery.a_resting_log_is_found.Goals as goal

pub returns : goal.returns
returns c = λ disks state devices areas rows before logs truth more log. found_idle (IsSettled disks state) devices areas rows before logs truth more log

use Rattle.bx_facts.specs.Writes.{IsSettled}
use Rattle.bx_redo.proofs.Begins.{found_closes}
use Rattle.bx_redo.proofs.recovery.a_found_log_is_closing.Goals as goal

pub returns : goal.returns
returns c = λ disks state devices areas rows before logs truth more slot found. found_closes (IsSettled disks state) devices areas rows before logs truth more slot found

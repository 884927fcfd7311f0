use Rattle.bx_facts.specs.Writes.{IsSettled}
use Rattle.bx_redo.proofs.Homes.{homes_found}
use Rattle.bx_redo.proofs.recovery.homes_of_a_found_log_are_written.Goals as goal

pub returns : goal.returns
returns c = λ disks disks_then state state_then devices areas rows before now logs truth more slot found writes.
    homes_found (IsSettled disks state) (IsSettled disks_then state_then) devices areas rows before now logs truth more writes slot found

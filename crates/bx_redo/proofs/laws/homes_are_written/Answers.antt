use Rattle.bx_facts.specs.Writes.{IsSettled}
use Rattle.bx_redo.proofs.Homes.{homes_stand}
use Rattle.bx_redo.proofs.laws.homes_are_written.Goals as goal

pub returns : goal.returns
returns c = λ disks disks_then state state_then devices areas rows before now logs truth more log st writes.
    homes_stand (IsSettled disks state) (IsSettled disks_then state_then) devices areas rows before now logs truth more writes log st

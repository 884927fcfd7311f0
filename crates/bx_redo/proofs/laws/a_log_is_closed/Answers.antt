use Rattle.bx_facts.specs.Writes.{IsSettled}
use Rattle.bx_redo.proofs.Shut.{shut_stands}
use Rattle.bx_redo.proofs.laws.a_log_is_closed.Goals as goal

pub returns : goal.returns
returns c = λ disks disks_then state state_then devices areas rows before now logs truth more next log st ack.
    shut_stands (IsSettled disks state) (IsSettled disks_then state_then) devices areas rows before now logs truth more next log st ack

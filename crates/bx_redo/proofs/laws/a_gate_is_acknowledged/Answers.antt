use Rattle.bx_facts.specs.Writes.{IsSettled}
use Rattle.bx_redo.proofs.Opened.{record_stands}
use Rattle.bx_redo.proofs.laws.a_gate_is_acknowledged.Goals as goal

pub returns : goal.returns
returns c = λ disks disks_then state state_then devices areas rows before now logs truth more next log point st ack.
    record_stands (IsSettled disks state) (IsSettled disks_then state_then) devices areas rows before now logs truth more log point next st ack

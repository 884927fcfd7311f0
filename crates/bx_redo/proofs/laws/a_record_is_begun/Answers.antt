use Rattle.bx_facts.specs.Writes.{IsSettled}
use Rattle.bx_redo.proofs.Begun.{record_begins}
use Rattle.bx_redo.proofs.laws.a_record_is_begun.Goals as goal

pub returns : goal.returns
returns c = λ disks state devices areas rows before logs truth more next log point st room is alone.
    record_begins (IsSettled disks state) devices areas rows before logs truth more log next point st room is alone

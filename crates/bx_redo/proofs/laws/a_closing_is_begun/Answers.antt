use Rattle.bx_facts.specs.Writes.{IsSettled}
use Rattle.bx_redo.proofs.Begun.{closing_begins}
use Rattle.bx_redo.proofs.laws.a_closing_is_begun.Goals as goal

pub returns : goal.returns
returns c = λ disks state devices areas rows before logs truth more log st some home sure.
    closing_begins (IsSettled disks state) devices areas rows before logs truth more log st some home sure

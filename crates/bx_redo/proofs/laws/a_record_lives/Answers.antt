use Rattle.bx_facts.specs.Writes.{IsSettled}
use Rattle.bx_redo.proofs.Life.{closes, opens}
use Rattle.bx_redo.proofs.laws.a_record_lives.Goals as goal

pub returns-clause-acked : goal.returns-clause-acked
returns-clause-acked c = λ disks disks_then disks_now state devices areas rows before there now logs truth more next log point.
    opens devices areas rows logs truth more log next point (IsSettled disks state) (IsSettled disks_then state) (IsSettled disks_now state) before there now

pub returns-clause-closed : goal.returns-clause-closed
returns-clause-closed c = λ disks disks_then disks_now disks_last state devices areas rows before there now last logs truth more log.
    closes devices areas rows logs truth more log (IsSettled disks state) (IsSettled disks_then state) (IsSettled disks_now state) (IsSettled disks_last state) before there now last

use Rattle.bx_redo.proofs.Begins.{rest_stands}
use Rattle.bx_redo.proofs.recovery.a_log_begins.Goals as goal

pub returns : goal.returns
returns c = λ disks state first truth more slot rest alike. rest_stands disks state first truth rest alike more slot

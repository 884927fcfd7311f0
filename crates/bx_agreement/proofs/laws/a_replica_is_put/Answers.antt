use Rattle.bx_agreement.proofs.Cells.{put}
use Rattle.bx_agreement.proofs.Replicas.{handles_cell}
use Rattle.bx_agreement.proofs.laws.a_replica_is_put.Goals as goal

pub returns-clause-cell : goal.returns-clause-cell
returns-clause-cell c = handles_cell

pub returns-clause-sound : goal.returns-clause-sound
returns-clause-sound c = put

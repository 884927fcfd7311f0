use Rattle.bx_agreement.proofs.Readings.{reads_next}
use Rattle.bx_agreement.proofs.laws.cells_are_read_as_the_next_state.Goals as goal

pub returns : goal.returns
returns c = λ h cells seen k l one other s sound within readable reads. reads_next h cells sound seen within k l one other readable s reads

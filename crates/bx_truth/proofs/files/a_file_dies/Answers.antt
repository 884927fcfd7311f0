use Rattle.bx_truth.proofs.Died.{died}
use Rattle.bx_truth.proofs.files.a_file_dies.Goals as goal

pub returns : goal.returns
returns c = died

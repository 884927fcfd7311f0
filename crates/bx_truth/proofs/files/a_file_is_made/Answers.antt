use Rattle.bx_truth.proofs.Made.{file_made}
use Rattle.bx_truth.proofs.files.a_file_is_made.Goals as goal

pub returns : goal.returns
returns c = file_made

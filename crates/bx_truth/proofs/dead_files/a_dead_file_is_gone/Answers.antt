use Rattle.bx_truth.proofs.Cleaned.{dead_gone}
use Rattle.bx_truth.proofs.dead_files.a_dead_file_is_gone.Goals as goal

pub returns : goal.returns
returns c = λ areas truth now tree handle is was slots others gone. dead_gone areas truth tree handle is was now slots others gone

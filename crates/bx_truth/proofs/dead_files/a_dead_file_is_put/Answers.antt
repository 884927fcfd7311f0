use Rattle.bx_truth.proofs.Cleaned.{dead_anew}
use Rattle.bx_truth.proofs.dead_files.a_dead_file_is_put.Goals as goal

pub returns : goal.returns
returns c = λ areas truth now tree handle owner_now stored_now is was slots others s. dead_anew areas truth tree handle is was now owner_now stored_now slots others s

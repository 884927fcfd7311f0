use Rattle.bx_truth.proofs.Frames.{files_kept}
use Rattle.bx_truth.proofs.truths.other_files_stay.Goals as goal

pub returns : goal.returns
returns c = λ named chunks now owner owner_now stored stored_now files files_now. files_kept named chunks now owner owner_now stored stored_now files files_now

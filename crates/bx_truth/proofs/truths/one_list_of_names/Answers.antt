use Rattle.bx_truth.proofs.OneFile.{one_names}
use Rattle.bx_truth.proofs.truths.one_list_of_names.Goals as goal

pub returns : goal.returns
returns c = one_names

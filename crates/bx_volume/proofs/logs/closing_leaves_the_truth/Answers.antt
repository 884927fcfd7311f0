use Rattle.bx_volume.proofs.Steps.{log_closed}
use Rattle.bx_volume.proofs.logs.closing_leaves_the_truth.Goals as goal

pub returns : goal.returns
returns c = λ held now devices areas rows logs truth slot was less taken only closed homes. log_closed held now devices areas rows logs truth slot less taken only closed homes was

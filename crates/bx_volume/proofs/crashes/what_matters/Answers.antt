use Rattle.bx_volume.proofs.Matters.{truth_same, image_truth}
use Rattle.bx_volume.proofs.crashes.what_matters.Goals as goal

pub returns-clause-same : goal.returns-clause-same
returns-clause-same c = truth_same

pub returns-clause-image : goal.returns-clause-image
returns-clause-image c = image_truth

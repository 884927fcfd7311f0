use Rattle.bx_rack_audit.proofs.Labels.{labelled_agrees}
use Rattle.bx_rack_audit.proofs.laws.labels_agree.Goals as goal

pub returns : goal.returns
returns c = labelled_agrees

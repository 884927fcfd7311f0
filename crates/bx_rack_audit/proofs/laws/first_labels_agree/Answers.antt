use Rattle.bx_rack_audit.proofs.Labels.{first_agrees}
use Rattle.bx_rack_audit.proofs.laws.first_labels_agree.Goals as goal

pub returns : goal.returns
returns c = first_agrees

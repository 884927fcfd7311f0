use Rattle.bx_truth.proofs.Linked.{link_made}
use Rattle.bx_truth.proofs.files.a_link_is_made.Goals as goal

pub returns : goal.returns
returns c = link_made

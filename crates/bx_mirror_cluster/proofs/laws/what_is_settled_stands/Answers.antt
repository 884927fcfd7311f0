use Rattle.bx_mirror_cluster.proofs.Chained.{settled_is}
use Rattle.bx_mirror_cluster.proofs.laws.what_is_settled_stands.Goals as goal

pub returns : goal.returns
returns c = settled_is

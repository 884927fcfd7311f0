use Rattle.bx_mirror_cluster.proofs.Chained.{rises, settles}
use Rattle.bx_mirror_cluster.proofs.laws.what_stands_is_settled.Goals as goal

pub returns : goal.returns
returns c = record { settles = settles; rises = rises }

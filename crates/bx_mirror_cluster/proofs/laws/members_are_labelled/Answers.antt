use Rattle.bx_mirror_cluster.proofs.Promised.{labelled}
use Rattle.bx_mirror_cluster.proofs.laws.members_are_labelled.Goals as goal

pub returns : goal.returns
returns c = λ parts x past keeps. labelled parts x past keeps

use Rattle.bx_mirror_cluster.proofs.Promised.{imaged}
use Rattle.bx_mirror_cluster.proofs.laws.an_image_has_what_is_settled.Goals as goal

pub returns : goal.returns
returns c = λ parts x past image keeps behind label. imaged parts x past keeps image behind label

use Rattle.bx_mirror_cluster.proofs.Finished.{finished}
use Rattle.bx_mirror_cluster.proofs.laws.what_is_done_stands.Goals as goal

pub returns : goal.returns
returns c = λ parts x past node write state device sector content keeps is_out number place rows lives done there brings.
    finished parts x past keeps node write is_out number state place rows lives done device sector content there brings

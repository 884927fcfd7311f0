use Rattle.bx_mirror_cluster.proofs.Promised.{will_promise}
use Rattle.bx_mirror_cluster.proofs.laws.a_read_has_what_stands.Goals as goal

pub returns : goal.returns
returns c = λ parts x past node session device place sectors read sector content index keeps may is stands low. will_promise parts x past keeps node session device place sectors may read sector content index is stands low

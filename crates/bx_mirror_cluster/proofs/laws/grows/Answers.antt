use Rattle.bx_mirror_cluster.proofs.Grown.{grown_keeps, grown_reads, grown_settles, grown_stands}
use Rattle.bx_mirror_cluster.proofs.laws.grows.Goals as goal

pub returns : goal.returns
returns c = record {
  keeps = λ parts x past change keeps legal own. grown_keeps parts x past change keeps legal own;
  settles = λ parts x past change device sector content keeps legal own settled. grown_settles parts x past change keeps legal own device sector content settled;
  stands = λ parts x past change device sector content index keeps legal own stands. grown_stands parts x past change keeps legal own device sector content index stands;
  reads = λ parts x past change reader read sector content keeps legal own will. grown_reads parts x past change keeps legal own reader read sector content will;
}

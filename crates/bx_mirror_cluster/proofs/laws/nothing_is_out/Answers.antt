use Rattle.bx_mirror_cluster.proofs.Dropping.{nothing_out, reads_dropped, settled_dropped, stands_dropped}
use Rattle.bx_mirror_cluster.proofs.laws.nothing_is_out.Goals as goal

pub returns : goal.returns
returns c = record {
  keeps = λ parts x past node session keeps own none. nothing_out parts x past keeps node session own none;
  settles = λ parts x past node session device sector content keeps own none only settled. settled_dropped parts x past keeps node session own none device sector content only settled;
  stands = λ parts x past node session device sector content index keeps own none only stands. stands_dropped parts x past keeps node session own none device sector content index only stands;
  reads = λ parts x past node session reader read sector content keeps own none only will. reads_dropped parts x past keeps node session own none reader read sector content only will;
}

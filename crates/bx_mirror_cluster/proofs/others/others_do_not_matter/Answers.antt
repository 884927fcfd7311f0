use Rattle.bx_mirror_cluster.proofs.Beside.{beside_keeps, beside_reads, beside_settled, beside_standing}
use Rattle.bx_mirror_cluster.proofs.others.others_do_not_matter.Goals as goal

pub returns : goal.returns
returns c = record {
  keeps = λ parts x past members knew boots down says are keeps. beside_keeps parts x past members knew boots down says are keeps;
  settles = λ parts x past members knew boots down device sector content says are settled. beside_settled parts x past members knew boots down says are device sector content settled;
  stands = λ parts x past members knew boots down device sector content index says are stands. beside_standing parts x past members knew boots down says are device sector content index stands;
  reads = λ parts x past members knew boots down reader read sector content says are will. beside_reads parts x past members knew boots down says are reader read sector content will;
}

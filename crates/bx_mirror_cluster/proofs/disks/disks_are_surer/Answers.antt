use Rattle.bx_mirror_cluster.proofs.Surer.{all_surer, surer_reads, surer_settled, surer_standing}
use Rattle.bx_mirror_cluster.proofs.disks.disks_are_surer.Goals as goal

pub returns : goal.returns
returns c = record {
  keeps = λ parts x y past keeps same lengths. all_surer parts x y past keeps same lengths;
  settles = λ parts x y past device sector content keeps same settled. surer_settled parts x y past keeps same device sector content settled;
  stands = λ parts x y past device sector content index keeps same stands. surer_standing parts x y past keeps same device sector content index stands;
  reads = λ parts x y past reader read sector content keeps same will. surer_reads parts x y past keeps same reader read sector content will;
}

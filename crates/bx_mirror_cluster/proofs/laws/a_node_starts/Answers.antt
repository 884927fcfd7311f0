use Rattle.bx_mirror_cluster.proofs.NodeStarts.{node_restarts, reads_restarted, settles_restarted, stands_restarted}
use Rattle.bx_mirror_cluster.proofs.laws.a_node_starts.Goals as goal

pub returns : goal.returns
returns c = record {
  keeps = λ parts x past node boot reading keeps newer. node_restarts parts x past keeps node boot reading newer;
  settles = λ parts x past node boot reading device sector content keeps newer settled. settles_restarted parts x past keeps node boot reading newer device sector content settled;
  stands = λ parts x past node boot reading device sector content index keeps newer stands. stands_restarted parts x past keeps node boot reading newer device sector content index stands;
  reads = λ parts x past node boot reading reader read sector content keeps newer other will. reads_restarted parts x past keeps node boot reading newer reader read sector content other will;
}

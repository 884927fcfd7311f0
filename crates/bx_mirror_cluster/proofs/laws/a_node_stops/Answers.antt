use Rattle.bx_mirror_cluster.proofs.NodeStops.{node_stops, reads_stopped, settles_stopped, stands_stopped}
use Rattle.bx_mirror_cluster.proofs.laws.a_node_stops.Goals as goal

pub returns : goal.returns
returns c = record {
  keeps = λ parts x past node keeps. node_stops parts x past keeps node;
  settles = λ parts x past node device sector content keeps settled. settles_stopped parts x past keeps node device sector content settled;
  stands = λ parts x past node device sector content index keeps stands. stands_stopped parts x past keeps node device sector content index stands;
  reads = λ parts x past node reader read sector content keeps other reads. reads_stopped parts x past keeps node reader read sector content other reads;
}

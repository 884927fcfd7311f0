use Rattle.bx_mirror_cluster.proofs.NodeSteps.{ack_noted}
use Rattle.bx_mirror_cluster.proofs.StreamsGo.{answer_is, answered_goes}
use Rattle.bx_mirror_cluster.proofs.laws.what_came_is_noted.Goals as goal

pub returns : goal.returns
returns c = record {
  answered = λ parts x past node keeps. answered_goes parts x past node keeps;
  promise = λ parts x past node read sector content bytes will is low high. answer_is parts x past node read sector content bytes will is low high;
  acked = λ parts x past node s member w keeps ack. ack_noted parts x past node s member w keeps ack;
}

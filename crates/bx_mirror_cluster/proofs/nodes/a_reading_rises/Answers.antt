use Rattle.bx_mirror_cluster.proofs.Clock.{clock_keeps, reads_clock, settles_clock, stands_clock}
use Rattle.bx_mirror_cluster.proofs.nodes.a_reading_rises.Goals as goal

pub returns : goal.returns
returns c = record {
  keeps = λ parts x past greatest rises keeps. clock_keeps parts x past greatest rises keeps;
  settles = λ parts x past greatest device sector content rises settled. settles_clock parts x past greatest rises device sector content settled;
  stands = λ parts x past greatest device sector content index rises stands. stands_clock parts x past greatest rises device sector content index stands;
  reads = λ parts x past greatest reader read sector content rises will. reads_clock parts x past greatest rises reader read sector content will;
}

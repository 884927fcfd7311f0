use Rattle.bx_mirror_cluster.proofs.NodeSteps.{read_sent, reads_asked, settles_asked, stands_asked}
use Rattle.bx_mirror_cluster.proofs.laws.a_read_is_sent.Goals as goal

pub returns : goal.returns
returns c = record {
  keeps = λ parts x past node session device place sectors keeps may. read_sent parts x past keeps node session device place sectors may;
  settles = λ parts x past node session device place sectors d sector content keeps may settled. settles_asked parts x past keeps node session device place sectors may d sector content settled;
  stands = λ parts x past node session device place sectors d sector content index keeps may stands. stands_asked parts x past keeps node session device place sectors may d sector content index stands;
  reads = λ parts x past node session device place sectors reader read sector content keeps may reads. reads_asked parts x past keeps node session device place sectors may reader read sector content reads;
}

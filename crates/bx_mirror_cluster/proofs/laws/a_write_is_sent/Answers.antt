use Rattle.bx_mirror_cluster.proofs.WriteSent.{law_keeps, law_reads, law_settles, law_stands}
use Rattle.bx_mirror_cluster.proofs.laws.a_write_is_sent.Goals as goal

pub returns : goal.returns
returns c = record {
  keeps = λ parts x past node session until runs keeps may. law_keeps parts x past keeps node session until runs may;
  settles = λ parts x past node session until runs device sector content keeps may settled. law_settles parts x past keeps node session until runs may device sector content settled;
  stands = λ parts x past node session until runs device sector content index keeps may stands. law_stands parts x past keeps node session until runs may device sector content index stands;
  reads = λ parts x past node session until runs reader read sector content keeps may reads. law_reads parts x past keeps node session until runs may reader read sector content reads;
}

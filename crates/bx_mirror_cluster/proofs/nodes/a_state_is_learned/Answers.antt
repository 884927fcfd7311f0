use Rattle.bx_mirror_cluster.proofs.Learned.{learned_keeps, others_learned, reads_learned, settles_learned, stands_learned}
use Rattle.bx_mirror_cluster.proofs.nodes.a_state_is_learned.Goals as goal

pub returns : goal.returns
returns c = record {
  keeps = λ parts x past node known new keeps may so. learned_keeps parts x past keeps node known may new so;
  settles = λ parts x past node known new device sector content keeps may so settled. settles_learned parts x past keeps node known may new so device sector content settled;
  stands = λ parts x past node known new device sector content index keeps may so stands. stands_learned parts x past keeps node known may new so device sector content index stands;
  others = λ parts x past node known new reader read sector content keeps may so other will. others_learned parts x past keeps node known may new so reader read sector content other will;
  own = λ parts x past node known new was read sector content keeps may so asked session tag device place sectors answer within will.
      reads_learned parts x past keeps node known may new so was read sector content asked session tag device place sectors answer within will;
}

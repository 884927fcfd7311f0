use Rattle.bx_mirror_cluster.proofs.ToldAgain.{reads_told, settles_told, stands_told, told_keeps}
use Rattle.bx_mirror_cluster.proofs.nodes.members_are_told_again.Goals as goal

pub returns : goal.returns
returns c = record {
  keeps = λ parts x past node before write keeps is_out number few. told_keeps parts x past keeps node before write is_out number few;
  settles = λ parts x past node before write device sector content keeps is_out number few settled. settles_told parts x past keeps node before write is_out number few device sector content settled;
  stands = λ parts x past node before write device sector content index keeps is_out number few stands. stands_told parts x past keeps node before write is_out number few device sector content index stands;
  reads = λ parts x past node before write reader read sector content keeps is_out number few will. reads_told parts x past keeps node before write is_out number few reader read sector content will;
}

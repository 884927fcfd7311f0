use Rattle.bx_mirror_cluster.proofs.WriteDone.{settles_ended, stands_ended, write_ends}
use Rattle.bx_mirror_cluster.proofs.nodes.a_write_ends.Goals as goal

pub returns : goal.returns
returns c = record {
  keeps = λ parts x past node write keeps is_out number done. write_ends parts x past keeps node write is_out number done;
  settles = λ parts x past node device sector content settled. settles_ended parts x past node device sector content settled;
  stands = λ parts x past node device sector content index stands. stands_ended parts x past node device sector content index stands;
}

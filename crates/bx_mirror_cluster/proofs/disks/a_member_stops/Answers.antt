use Rattle.bx_mirror_cluster.proofs.MemberStops.{member_stops, reads_stopped, settles_stopped, stands_stopped}
use Rattle.bx_mirror_cluster.proofs.disks.a_member_stops.Goals as goal

pub returns : goal.returns
returns c = record {
  keeps = λ parts x past member members keeps stops. member_stops parts x past member members stops keeps;
  settles = λ parts x past member device sector members content keeps stops settled. settles_stopped parts x past member members stops device sector content keeps settled;
  reads = λ parts x past member reader members read sector content keeps stops will. reads_stopped parts x past member members stops reader read sector content keeps will;
  stands = λ parts x past member device sector members content index keeps stops stands. stands_stopped parts x past member members stops device sector content index keeps stands;
}

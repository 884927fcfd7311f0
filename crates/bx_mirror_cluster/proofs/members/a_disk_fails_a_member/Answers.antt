use Rattle.bx_mirror_cluster.proofs.MemberFaulted.{faults_cut, faults_kept, faults_piece}
use Rattle.bx_mirror_cluster.proofs.members.a_disk_fails_a_member.Goals as goal

pub returns : goal.returns
returns c = record {
  kept = λ parts x y past device second before known input keeps within serve arrives for_it steady disks lengths reads sure. faults_kept parts x y past device second within before keeps known serve input arrives for_it steady disks lengths reads sure;
  cut = λ parts x y past device second before known input reading write keeps within serve arrives for_it steady disks lengths is_write taken partly. faults_cut parts x y past device second within before keeps known serve input arrives for_it steady disks lengths reading write is_write taken partly;
  piece = λ parts x y past device second before known input piece keeps within serve arrives for_it steady disks lengths is_piece here changed. faults_piece parts x y past device second within before keeps known serve input arrives for_it steady disks lengths piece is_piece here changed;
}

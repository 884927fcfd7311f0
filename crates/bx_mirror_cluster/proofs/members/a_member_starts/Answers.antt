use Rattle.bx_mirror_cluster.proofs.MemberStarts.{fails_goes, restarts_goes}
use Rattle.bx_mirror_cluster.proofs.members.a_member_starts.Goals as goal

pub returns : goal.returns
returns c = record {
  started = λ parts x y past device second boot reading member keeps is_down newer starts. restarts_goes parts x y past device second boot reading member keeps is_down newer starts;
  failed = λ parts x y past device second boot reading member keeps is_down newer starts. fails_goes parts x y past device second boot reading member keeps is_down newer starts;
}

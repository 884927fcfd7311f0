use Rattle.bx_mirror_cluster.proofs.MemberEvents.{member_takes}
use Rattle.bx_mirror_cluster.proofs.members.a_member_takes.Goals as goal

pub returns : goal.returns
returns c = λ parts x y past device second known input new change before after keeps within serve arrives for_it steady disks lengths does. member_takes parts x y past device second within before after keeps known serve input arrives for_it steady disks lengths new change does

use Rattle.bx_mirror_cluster.proofs.MemberImages.{cut_goes, image_goes}
use Rattle.bx_mirror_cluster.proofs.members.an_event_is_cut.Goals as goal

pub returns : goal.returns
returns c = record {
  fault = λ parts x y past device second before known input runs keeps within serve arrives for_it steady brings members others lengths.
      cut_goes parts x past device second within before keeps known serve input arrives for_it steady runs brings y members others lengths;
  image = λ parts x past device second before known input runs image keeps within serve arrives for_it steady brings has sure.
      image_goes parts x past device second within before keeps known serve input arrives for_it steady runs brings image has sure;
}

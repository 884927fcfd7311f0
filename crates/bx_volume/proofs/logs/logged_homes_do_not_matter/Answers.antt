use Rattle.bx_volume.proofs.Steps.{logged_home}
use Rattle.bx_volume.proofs.logs.logged_homes_do_not_matter.Goals as goal

pub returns : goal.returns
returns c = λ held now devices areas rows logs truth slot at block volume was less in_log is only. logged_home held now devices areas rows logs truth slot at block volume was less in_log is only

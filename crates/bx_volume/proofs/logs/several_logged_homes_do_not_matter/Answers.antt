use Rattle.bx_volume.proofs.LoggedHomes.{homes_written, homes_out}
use Rattle.bx_volume.proofs.logs.several_logged_homes_do_not_matter.Goals as goal

pub returns-clause-written : goal.returns-clause-written
returns-clause-written c = λ held now devices areas rows logs truth volume each was. homes_written devices areas logs volume held now rows truth each was

pub returns-clause-image : goal.returns-clause-image
returns-clause-image c = λ disks image second devices areas rows logs truth volume is each was. homes_out devices areas logs volume disks image second rows truth is each was

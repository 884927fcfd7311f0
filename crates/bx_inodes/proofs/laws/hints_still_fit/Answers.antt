use Rattle.bx_inodes.proofs.Later.{fit_still}
use Rattle.bx_inodes.proofs.laws.hints_still_fit.Goals as goal

pub returns : goal.returns
returns c = fit_still

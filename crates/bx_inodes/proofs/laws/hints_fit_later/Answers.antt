use Rattle.bx_inodes.proofs.Later.{fit_later}
use Rattle.bx_inodes.proofs.laws.hints_fit_later.Goals as goal

pub returns : goal.returns
returns c = fit_later

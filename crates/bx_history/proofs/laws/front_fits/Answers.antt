use Rattle.bx_history.proofs.Fronts.{front_fits}
use Rattle.bx_history.proofs.laws.front_fits.Goals as goal

pub returns : goal.returns
returns c = front_fits

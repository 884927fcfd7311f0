use Rattle.bx_history.proofs.Spelled.{points-from_fits}
use Rattle.bx_history.proofs.laws.points_are_entries.Goals as goal

pub returns : goal.returns
returns c = points-from_fits

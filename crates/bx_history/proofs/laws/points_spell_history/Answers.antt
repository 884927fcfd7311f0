use Rattle.bx_history.proofs.Spelled.{asked-from_fits}
use Rattle.bx_history.proofs.laws.points_spell_history.Goals as goal

pub returns : goal.returns
returns c = asked-from_fits

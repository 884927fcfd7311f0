use Rattle.bx_history.proofs.Fronts.{front_placed}
use Rattle.bx_history.proofs.laws.front_placed.Goals as goal

pub returns : goal.returns
returns g c = front_placed g.S.Stage.rules

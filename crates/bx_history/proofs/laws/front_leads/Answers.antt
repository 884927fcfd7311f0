use Rattle.bx_history.proofs.Fronts.{front_leads}
use Rattle.bx_history.proofs.laws.front_leads.Goals as goal

pub returns : goal.returns
returns g c = front_leads g.S.Steps.step

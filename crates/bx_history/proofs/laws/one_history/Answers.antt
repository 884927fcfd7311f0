use Rattle.bx_history.proofs.Once.{one_history}
use Rattle.bx_history.proofs.laws.one_history.Goals as goal

pub returns : goal.returns
returns g c = λ once. one_history g.S.Steps.step once

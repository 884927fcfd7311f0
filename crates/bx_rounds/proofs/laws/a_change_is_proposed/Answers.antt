use Rattle.bx_rounds.proofs.Agreeing.{proposes}
use Rattle.bx_rounds.proofs.laws.a_change_is_proposed.Goals as goal

pub returns : goal.returns
returns c = proposes

use Rattle.bx_agreement.proofs.Agree.{agree}
use Rattle.bx_agreement.proofs.laws.one_of_each.Goals as goal

pub returns : goal.returns
returns c = agree

use Rattle.bx_rounds.proofs.Agreeing.{may_tell}
use Rattle.bx_rounds.proofs.laws.what_is_sent_may_pass.Goals as goal

pub returns : goal.returns
returns c = may_tell

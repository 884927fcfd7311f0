use Rattle.bx_schedule.proofs.OneCause.{one_cause}
use Rattle.bx_schedule.proofs.laws.one_cause.Goals as goal

pub returns : goal.returns
returns c = one_cause

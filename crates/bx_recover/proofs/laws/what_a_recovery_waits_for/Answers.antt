use Rattle.bx_recover.proofs.Waiting.{waits}
use Rattle.bx_recover.proofs.laws.what_a_recovery_waits_for.Goals as goal

pub returns : goal.returns
returns c = λ old new arrived done move steps. waits old new move old.stage arrived done steps

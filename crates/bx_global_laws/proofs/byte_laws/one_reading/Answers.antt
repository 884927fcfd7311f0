use Rattle.bx_global.proofs.HeldText.{one_held}
use Rattle.bx_global.proofs.StateText.{one_state}
use Rattle.bx_global_laws.proofs.byte_laws.one_reading.Goals as goal

pub returns-clause-state : goal.returns-clause-state
returns-clause-state c = λ a b bytes p q. one_state bytes a b p q

pub returns-clause-held : goal.returns-clause-held
returns-clause-held c = λ a b bytes devices others p q. one_held devices others bytes a b p q

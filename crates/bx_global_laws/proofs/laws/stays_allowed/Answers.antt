use Rattle.bx_global.proofs.StaysAllowed.{stays_allowed}
use Rattle.bx_global_laws.proofs.laws.stays_allowed.Goals as goal

pub returns : goal.returns
returns c = stays_allowed

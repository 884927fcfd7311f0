use Rattle.bx_global.proofs.Rising.{follows}
use Rattle.bx_global_laws.proofs.laws.modes_follow.Goals as goal

pub returns : goal.returns
returns c = follows

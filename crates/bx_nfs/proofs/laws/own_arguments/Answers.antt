use Rattle.bx_nfs.proofs.Asking.{asked}
use Rattle.bx_nfs.proofs.laws.own_arguments.Goals as goal

pub returns : goal.returns
returns c = asked

use Rattle.bx_rpc.proofs.Passing.{passes}
use Rattle.bx_rpc.proofs.laws.passes.Goals as goal

pub returns : goal.returns
returns c = λ text program procedure caller arguments checked. passes program procedure caller arguments text checked

use Rattle.bx_rpc.proofs.Telling.{tells, told}
use Rattle.bx_rpc.proofs.laws.messages.Goals as goal

pub returns-clause-told : goal.returns-clause-told
returns-clause-told c = told

pub returns-clause-tells : goal.returns-clause-tells
returns-clause-tells c = tells

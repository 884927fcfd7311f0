use Rattle.bx_rpc.proofs.Refusing.{refusal_numbers}
use Rattle.bx_rpc.proofs.laws.refusals.Goals as goal

pub returns : goal.returns
returns c = refusal_numbers

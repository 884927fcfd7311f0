use Rattle.std.proofs.Common.{rules}
use Rattle.bx_rpc.proofs.caller.nobody.Goals as goal

pub returns : goal.returns
returns c = search rules

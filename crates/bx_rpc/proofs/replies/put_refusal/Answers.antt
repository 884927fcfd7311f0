use Rattle.std.proofs.Common.{rules}
use Rattle.bx_rpc.proofs.replies.put_refusal.Goals as goal

pub returns-in-5 : goal.returns-in-5
returns-in-5 c = search rules

use Rattle.std.proofs.Common.{rules}
use Rattle.bx_calls.proofs.calls.write_through.Goals as goal

pub returns-clause-sure : goal.returns-clause-sure
returns-clause-sure g c = search rules

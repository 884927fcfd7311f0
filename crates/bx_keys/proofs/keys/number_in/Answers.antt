use Rattle.std.proofs.Common.{arith}
use Rattle.bx_keys.proofs.Numbers.{number_there}
use Rattle.bx_keys.proofs.keys.number_in.Goals as goal

pub returns-in-Ok-clause-some : goal.returns-in-Ok-clause-some
returns-in-Ok-clause-some c = number_there c.args.bytes.now c.in-Ok.found.0 c.in-Ok.found.1.now (λ i. omega (arith, c.type_inv.bytes i)) c.in-Ok.ensures.value

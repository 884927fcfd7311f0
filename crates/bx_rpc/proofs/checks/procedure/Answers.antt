use Rattle.std.proofs.Common.{rules}
use Rattle.bx_rpc.proofs.checks.procedure.Goals as goal

pub returns-then-procedure-last_procedure-clause-err : goal.returns-then-procedure-last_procedure-clause-err
returns-then-procedure-last_procedure-clause-err c = search rules

use Rattle.std.proofs.Common.{rules}
use Rattle.bx_memory_rack.proofs.steps.count_call.Goals as goal

pub returns-clause-fails : goal.returns-clause-fails
returns-clause-fails c = search rules

use Rattle.std.proofs.Common.{rules}
use Rattle.bx_base.proofs.reading.front_at.Goals as goal

pub returns-then-bytes-len-clause-value : goal.returns-then-bytes-len-clause-value
returns-then-bytes-len-clause-value c = search rules

pub returns-clause-value : goal.returns-clause-value
returns-clause-value c = search rules

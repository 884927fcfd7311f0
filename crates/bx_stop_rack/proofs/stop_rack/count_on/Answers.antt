use Rattle.std.proofs.Common.{rules}
use Rattle.bx_stop_rack.proofs.stop_rack.count_on.Goals as goal

pub returns-clause-value : goal.returns-clause-value
returns-clause-value c = search rules

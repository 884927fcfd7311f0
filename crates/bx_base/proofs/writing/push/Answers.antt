use Rattle.std.proofs.Common.{rules}
use Rattle.bx_base.proofs.writing.push.Goals as goal

pub returns-clause-ok : goal.returns-clause-ok
returns-clause-ok c = search rules

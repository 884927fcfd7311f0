use Rattle.std.proofs.Common.{rules}
use Rattle.bx_global.proofs.changes.renew.Goals as goal

pub returns : goal.returns
returns c = search rules

use Rattle.std.proofs.Common.{rules}
use Rattle.bx_rows.proofs.session.dead_row.Goals as goal

pub returns : goal.returns
returns c = search rules

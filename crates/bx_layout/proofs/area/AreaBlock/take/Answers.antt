use Rattle.std.proofs.Common.{rules}
use Rattle.bx_layout.proofs.area.AreaBlock.take.Goals as goal

pub returns-clause-taken : goal.returns-clause-taken
returns-clause-taken c = search rules

pub returns-clause-above : goal.returns-clause-above
returns-clause-above c = search rules

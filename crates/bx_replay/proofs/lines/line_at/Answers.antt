use Rattle.std.proofs.Common.{rules}
use Rattle.bx_replay.proofs.lines.line_at.Goals as goal

pub returns-in-Some-clause-found : goal.returns-in-Some-clause-found
returns-in-Some-clause-found c = search rules

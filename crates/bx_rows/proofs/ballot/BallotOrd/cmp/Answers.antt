use Rattle.std.proofs.Common.{rules}
use Rattle.bx_rows.proofs.ballot.BallotOrd.cmp.Goals as goal

pub returns-clause-value : goal.returns-clause-value
returns-clause-value c = search rules

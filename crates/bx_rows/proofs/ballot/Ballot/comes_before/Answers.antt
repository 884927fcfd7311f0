use Rattle.std.proofs.Common.{rules}
use Rattle.bx_rows.proofs.ballot.Ballot.comes_before.Goals as goal

pub returns : goal.returns
returns c = search rules

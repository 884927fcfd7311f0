use Rattle.std.proofs.Common.{rules}
use Rattle.bx_xdr.proofs.reader.word_at.Goals as goal

pub returns-clause-some : goal.returns-clause-some
returns-clause-some c = search rules

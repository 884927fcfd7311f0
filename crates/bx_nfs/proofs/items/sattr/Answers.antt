use Rattle.std.proofs.Common.{arith}
use Rattle.std.proofs.lemmas.Grind.{common_steps}
use Rattle.bx_xdr.specs.Items.{SpellsWords}
use Rattle.bx_xdr.proofs.Grammar.{lacks-made}
use Rattle.bx_nfs.specs.Items.{sattr_of}
use Rattle.bx_nfs.proofs.items.sattr.Goals as goal

pub returns-in_err-words-clause-none : goal.returns-in_err-words-clause-none
returns-in_err-words-clause-none c = rw c.from_residual.ensures (lacks-made sattr_of (SpellsWords 8) _ c.in_err-words.ensures.none)

pub returns-clause-some : goal.returns-clause-some
returns-clause-some c = grind (arith, common_steps)

use Rattle.bx_xdr.proofs.Grammar.{lacks-made, reads_made}
use Rattle.bx_nfs.specs.Arguments.{name_of}
use Rattle.bx_nfs.specs.Items.{SpellsPlace}
use Rattle.bx_nfs.proofs.arguments.to_name.Goals as goal

pub returns-in_default-clause-none : goal.returns-in_default-clause-none
returns-in_default-clause-none c = lacks-made name_of SpellsPlace _ c.in_default.ensures.none

pub returns-clause-found : goal.returns-clause-found
returns-clause-found c = rw (c.in_ok-handle.ensures.0, c.in_ok-handle.ensures.1) (reads_made name_of SpellsPlace _ _ _ c.in-Some.ensures.some)

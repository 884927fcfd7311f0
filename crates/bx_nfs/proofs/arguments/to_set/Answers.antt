use Rattle.bx_xdr.specs.Items.{Both}
use Rattle.bx_xdr.proofs.Grammar.{lacks-made, reads_made, lacks-first, lacks-second, reads_then}
use Rattle.bx_nfs.specs.Arguments.{set_of}
use Rattle.bx_nfs.specs.Items.{SpellsHandle, SpellsSattr}
use Rattle.bx_nfs.proofs.OneItem.{handle_once}
use Rattle.bx_nfs.proofs.arguments.to_set.Goals as goal

pub returns-in_default-clause-none : goal.returns-in_default-clause-none
returns-in_default-clause-none c = lacks-made set_of (Both SpellsHandle SpellsSattr) _ (lacks-first SpellsHandle SpellsSattr _ c.in_default.ensures.none)

pub returns-in_default-sattr-clause-none : goal.returns-in_default-sattr-clause-none
returns-in_default-sattr-clause-none c = lacks-made set_of (Both SpellsHandle SpellsSattr) _ (lacks-second SpellsHandle SpellsSattr _ _ _ handle_once c.in-Some.ensures.some c.in_default-sattr.ensures.none)

pub returns-clause-found : goal.returns-clause-found
returns-clause-found c = rw (c.in_ok-handle.ensures) (reads_made set_of (Both SpellsHandle SpellsSattr) _ _ _ (reads_then c.in-Some.ensures.some c.in-Some-sattr.ensures.some))

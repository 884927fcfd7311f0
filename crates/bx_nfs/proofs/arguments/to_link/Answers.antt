use Rattle.bx_xdr.specs.Items.{Both}
use Rattle.bx_xdr.proofs.Grammar.{lacks-made, reads_made, lacks-first, lacks-second, reads_then}
use Rattle.bx_nfs.specs.Arguments.{link_of}
use Rattle.bx_nfs.specs.Items.{SpellsHandle, SpellsPlace}
use Rattle.bx_nfs.proofs.OneItem.{handle_once}
use Rattle.bx_nfs.proofs.arguments.to_link.Goals as goal

pub returns-in_default-clause-none : goal.returns-in_default-clause-none
returns-in_default-clause-none c = lacks-made link_of (Both SpellsHandle SpellsPlace) _ (lacks-first SpellsHandle SpellsPlace _ c.in_default.ensures.none)

pub returns-in_default-place-clause-none : goal.returns-in_default-place-clause-none
returns-in_default-place-clause-none c = lacks-made link_of (Both SpellsHandle SpellsPlace) _ (lacks-second SpellsHandle SpellsPlace _ _ _ handle_once c.in-Some.ensures.some c.in_default-place.ensures.none)

pub returns-clause-found : goal.returns-clause-found
returns-clause-found c = rw (c.in_ok-file.ensures, c.in_ok-handle.ensures.0, c.in_ok-handle.ensures.1) (reads_made link_of (Both SpellsHandle SpellsPlace) _ _ _ (reads_then c.in-Some.ensures.some c.in-Some-place.ensures.some))

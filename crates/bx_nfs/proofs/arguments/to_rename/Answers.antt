use Rattle.bx_xdr.specs.Items.{Both}
use Rattle.bx_xdr.proofs.Grammar.{lacks-made, reads_made, lacks-first, lacks-second, reads_then}
use Rattle.bx_nfs.specs.Arguments.{rename_of}
use Rattle.bx_nfs.specs.Items.{SpellsPlace}
use Rattle.bx_nfs.proofs.OneItem.{place_once}
use Rattle.bx_nfs.proofs.arguments.to_rename.Goals as goal

pub returns-in_default-clause-none : goal.returns-in_default-clause-none
returns-in_default-clause-none c = lacks-made rename_of (Both SpellsPlace SpellsPlace) _ (lacks-first SpellsPlace SpellsPlace _ c.in_default.ensures.none)

pub returns-in_default-place-clause-none : goal.returns-in_default-place-clause-none
returns-in_default-place-clause-none c = lacks-made rename_of (Both SpellsPlace SpellsPlace) _ (lacks-second SpellsPlace SpellsPlace _ _ _ place_once c.in-Some.ensures.some c.in_default-place.ensures.none)

pub returns-clause-found : goal.returns-clause-found
returns-clause-found c = rw (c.in_ok-from_handle.ensures.0, c.in_ok-from_handle.ensures.1, c.in_ok-to_handle.ensures.0, c.in_ok-to_handle.ensures.1) (reads_made rename_of (Both SpellsPlace SpellsPlace) _ _ _ (reads_then c.in-Some.ensures.some c.in-Some-place.ensures.some))

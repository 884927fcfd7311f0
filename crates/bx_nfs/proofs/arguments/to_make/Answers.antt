use Rattle.bx_xdr.specs.Items.{Both}
use Rattle.bx_xdr.proofs.Grammar.{lacks-made, reads_made, lacks-first, lacks-second, reads_then}
use Rattle.bx_nfs.specs.Arguments.{make_of}
use Rattle.bx_nfs.specs.Items.{SpellsPlace, SpellsSattr}
use Rattle.bx_nfs.proofs.OneItem.{place_once}
use Rattle.bx_nfs.proofs.arguments.to_make.Goals as goal

pub returns-in_default-clause-none : goal.returns-in_default-clause-none
returns-in_default-clause-none c = lacks-made make_of (Both SpellsPlace SpellsSattr) _ (lacks-first SpellsPlace SpellsSattr _ c.in_default.ensures.none)

pub returns-in_default-sattr-clause-none : goal.returns-in_default-sattr-clause-none
returns-in_default-sattr-clause-none c = lacks-made make_of (Both SpellsPlace SpellsSattr) _ (lacks-second SpellsPlace SpellsSattr _ _ _ place_once c.in-Some.ensures.some c.in_default-sattr.ensures.none)

pub returns-clause-found : goal.returns-clause-found
returns-clause-found c = rw (c.in_ok-handle.ensures.0, c.in_ok-handle.ensures.1) (reads_made make_of (Both SpellsPlace SpellsSattr) _ _ _ (reads_then c.in-Some.ensures.some c.in-Some-sattr.ensures.some))

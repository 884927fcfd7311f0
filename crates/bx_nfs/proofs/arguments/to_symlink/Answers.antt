use Rattle.bx_xdr.specs.Items.{Both}
use Rattle.bx_xdr.proofs.Grammar.{lacks-made, reads_made, lacks-first, lacks-second, reads_then}
use Rattle.bx_nfs.specs.Arguments.{symlink_of}
use Rattle.bx_nfs.specs.Items.{SpellsPath, SpellsPlace, SpellsSattr}
use Rattle.bx_nfs.proofs.OneItem.{path_once, place_once}
use Rattle.bx_nfs.proofs.arguments.to_symlink.Goals as goal

pub returns-in_default-clause-none : goal.returns-in_default-clause-none
returns-in_default-clause-none c = lacks-made symlink_of (Both SpellsPlace (Both SpellsPath SpellsSattr)) _ (lacks-first SpellsPlace (Both SpellsPath SpellsSattr) _ c.in_default.ensures.none)

pub returns-in_default-opaque-clause-none : goal.returns-in_default-opaque-clause-none
returns-in_default-opaque-clause-none c = lacks-made symlink_of (Both SpellsPlace (Both SpellsPath SpellsSattr)) _ (lacks-second SpellsPlace (Both SpellsPath SpellsSattr) _ _ _ place_once c.in-Some.ensures.some (lacks-first SpellsPath SpellsSattr _ c.in_default-opaque.ensures.none))

pub returns-in_default-sattr-clause-none : goal.returns-in_default-sattr-clause-none
returns-in_default-sattr-clause-none c = lacks-made symlink_of (Both SpellsPlace (Both SpellsPath SpellsSattr)) _ (lacks-second SpellsPlace (Both SpellsPath SpellsSattr) _ _ _ place_once c.in-Some.ensures.some (lacks-second SpellsPath SpellsSattr _ _ _ path_once c.in-Some-opaque.ensures.some c.in_default-sattr.ensures.none))

pub returns-clause-found : goal.returns-clause-found
returns-clause-found c = rw (c.in_ok-handle.ensures.0, c.in_ok-handle.ensures.1, c.in_ok-path.ensures) (reads_made symlink_of (Both SpellsPlace (Both SpellsPath SpellsSattr)) _ _ _ (reads_then c.in-Some.ensures.some (reads_then c.in-Some-opaque.ensures.some c.in-Some-sattr.ensures.some)))

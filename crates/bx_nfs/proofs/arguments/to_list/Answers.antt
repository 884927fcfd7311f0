use Rattle.bx_xdr.specs.Items.{SpellsWords, Both}
use Rattle.bx_xdr.proofs.Grammar.{lacks-made, reads_made, lacks-first, lacks-second, reads_then}
use Rattle.bx_nfs.specs.Arguments.{list_of}
use Rattle.bx_nfs.specs.Items.{SpellsHandle}
use Rattle.bx_nfs.proofs.OneItem.{handle_once}
use Rattle.bx_nfs.proofs.arguments.to_list.Goals as goal

pub returns-in_default-clause-none : goal.returns-in_default-clause-none
returns-in_default-clause-none c = lacks-made list_of (Both SpellsHandle (SpellsWords 2)) _ (lacks-first SpellsHandle (SpellsWords 2) _ c.in_default.ensures.none)

pub returns-in_default-words-clause-none : goal.returns-in_default-words-clause-none
returns-in_default-words-clause-none c = lacks-made list_of (Both SpellsHandle (SpellsWords 2)) _ (lacks-second SpellsHandle (SpellsWords 2) _ _ _ handle_once c.in-Some.ensures.some c.in_default-words.ensures.none)

pub returns-clause-found : goal.returns-clause-found
returns-clause-found c = rw (c.in_ok-handle.ensures) (reads_made list_of (Both SpellsHandle (SpellsWords 2)) _ _ _ (reads_then c.in-Some.ensures.some c.in-Some-words.ensures.some))

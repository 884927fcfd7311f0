use Rattle.bx_xdr.specs.Items.{SpellsWords, Both}
use Rattle.bx_xdr.proofs.Grammar.{lacks-made, reads_made, lacks-first, lacks-second, reads_then}
use Rattle.bx_xdr.proofs.Words.{words_once}
use Rattle.bx_nfs.specs.Arguments.{write_of}
use Rattle.bx_nfs.specs.Items.{SpellsData, SpellsHandle}
use Rattle.bx_nfs.proofs.OneItem.{handle_once}
use Rattle.bx_nfs.proofs.arguments.to_write.Goals as goal

pub returns-in_default-clause-none : goal.returns-in_default-clause-none
returns-in_default-clause-none c = lacks-made write_of (Both SpellsHandle (Both (SpellsWords 3) SpellsData)) _ (lacks-first SpellsHandle (Both (SpellsWords 3) SpellsData) _ c.in_default.ensures.none)

pub returns-in_default-words-clause-none : goal.returns-in_default-words-clause-none
returns-in_default-words-clause-none c = lacks-made write_of (Both SpellsHandle (Both (SpellsWords 3) SpellsData)) _ (lacks-second SpellsHandle (Both (SpellsWords 3) SpellsData) _ _ _ handle_once c.in-Some.ensures.some (lacks-first (SpellsWords 3) SpellsData _ c.in_default-words.ensures.none))

pub returns-in_default-opaque-clause-none : goal.returns-in_default-opaque-clause-none
returns-in_default-opaque-clause-none c = lacks-made write_of (Both SpellsHandle (Both (SpellsWords 3) SpellsData)) _ (lacks-second SpellsHandle (Both (SpellsWords 3) SpellsData) _ _ _ handle_once c.in-Some.ensures.some (lacks-second (SpellsWords 3) SpellsData _ _ _ (words_once 3) c.in-Some-words.ensures.some c.in_default-opaque.ensures.none))

pub returns-clause-found : goal.returns-clause-found
returns-clause-found c = rw (c.in_ok-handle.ensures, c.in_ok-content.ensures) (reads_made write_of (Both SpellsHandle (Both (SpellsWords 3) SpellsData)) _ _ _ (reads_then c.in-Some.ensures.some (reads_then c.in-Some-words.ensures.some c.in-Some-opaque.ensures.some)))

use Rattle.bx_xdr.proofs.Grammar.{lacks-first, lacks-second, reads_then}
use Rattle.bx_nfs.specs.Items.{SpellsHandle, SpellsName}
use Rattle.bx_nfs.proofs.OneItem.{handle_once}
use Rattle.bx_nfs.proofs.items.place.Goals as goal

pub returns-in_err-handle-clause-none : goal.returns-in_err-handle-clause-none
returns-in_err-handle-clause-none c = rw c.from_residual.ensures (lacks-first SpellsHandle SpellsName _ c.in_err-handle.ensures.none)

pub returns-in_err-name-clause-none : goal.returns-in_err-name-clause-none
returns-in_err-name-clause-none c =
    rw c.from_residual-in_err-name.ensures (lacks-second SpellsHandle SpellsName _ _ _ handle_once c.in_ok-handle.ensures.some c.in_err-name.ensures.none)

pub returns-clause-some : goal.returns-clause-some
returns-clause-some c = reads_then c.in_ok-handle.ensures.some c.in_ok-name.ensures.some

use Rattle.std.proofs.Common.{[], ◌∷◌}
use Rattle.bx_xdr.specs.Items.{SpellsWords, Reads}
use Rattle.bx_rpc.proofs.opened.call_of.Goals as goal

pub returns-in_err-words-clause-none : goal.returns-in_err-words-clause-none
returns-in_err-words-clause-none c = rw c.from_residual.ensures (λ xid text is.
    let reads : Reads (SpellsWords 2 (xid ∷ 0 ∷ [])) c.new-reader.result text = rw c.new-reader.ensures is.reads in
    c.in_err-words.ensures.none _ text reads)

use Rattle.bx_xdr.proofs.reader.Reader.list.Goals as goal

pub returns-in_err-count-clause-none : goal.returns-in_err-count-clause-none
returns-in_err-count-clause-none c = rw (c.from_residual.ensures, ← c.self.view_is) c.in_err-count.ensures.none

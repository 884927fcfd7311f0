use Rattle.bx_xdr.proofs.reader.Reader.words.Goals as goal

pub returns-in_err-self-inside-clause-none : goal.returns-in_err-self-inside-clause-none
returns-in_err-self-inside-clause-none c = rw (c.from_residual.ensures, ← c.self.view_is) c.in_err-self-inside.ensures.none

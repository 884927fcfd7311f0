use Rattle.bx_xdr.proofs.reader.Reader.word.Goals as goal

pub returns-in_err-word-clause-none : goal.returns-in_err-word-clause-none
returns-in_err-word-clause-none c = rw (c.from_residual.ensures, ← c.self.view_is) c.in_err-word.ensures.none

use Rattle.std.proofs.Common.{rules}
use Rattle.bx_xdr.proofs.reader.Reader.opaque.Goals as goal

pub returns-in_err-content-clause-none : goal.returns-in_err-content-clause-none
returns-in_err-content-clause-none c = rw (c.from_residual.ensures, ← c.self.view_is) c.in_err-content.ensures.none

pub returns-in_err-content-clause-unchanged : goal.returns-in_err-content-clause-unchanged
returns-in_err-content-clause-unchanged c = search rules

use Rattle.std.proofs.Common.{arith}
use Rattle.std.proofs.lemmas.List.{take_rest}
use Rattle.bx_xdr.proofs.Spelling.{fixed_cut}
use Rattle.bx_xdr.proofs.reader.fixed_at.Goals as goal

pub returns-clause-some : goal.returns-clause-some
returns-clause-some c =
    rw (take_rest, c.split_at.ensures.front, c.split_at.ensures.back) (fixed_cut c.args.n c.padding_of-padding.result c.args.bytes.now c.padding_of-padding.ensures.value (omega arith))

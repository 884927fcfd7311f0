use Rattle.std.proofs.Common.{◌*◌, length, refl, arith}
use Rattle.bx_xdr.proofs.Words.{words_long, words_cut}
use Rattle.bx_xdr.proofs.reader.words_at.Goals as goal

pub returns-then-bytes-into-clause-none : goal.returns-then-bytes-into-clause-none
returns-then-bytes-into-clause-none c = λ numbers rest reads. omega (arith, words_long (length c.args.into.now) numbers c.args.bytes.now rest reads)

pub returns-clause-some : goal.returns-clause-some
returns-clause-some c =
    words_cut (length c.args.into.now) (4 * length c.args.into.now) c.read_u32_into.new.dst c.split_at.result.0.now c.split_at.result.1.now c.args.bytes.now (λ i. omega (arith, c.type_inv.bytes i)) (omega arith) refl (omega arith) c.split_at.ensures.front c.split_at.ensures.back c.read_u32_into.ensures

use Rattle.std.proofs.Common.{[], ◌∷◌, arith}
use Rattle.bx_xdr.proofs.Words.{words_long}
use Rattle.bx_nfs.proofs.Sizes.{reply-whole, reply-limited}
use Rattle.bx_nfs.proofs.laws.lengths.Goals as goal

pub returns-clause-short : goal.returns-clause-short
returns-clause-short c = λ bytes xid call reads. reads.message.short

pub returns-clause-long : goal.returns-clause-long
returns-clause-long c = λ bytes xid call reads. omega (arith, words_long 2 (xid ∷ 0 ∷ []) bytes reads.text reads.message.reads)

pub returns-clause-whole : goal.returns-clause-whole
returns-clause-whole c = reply-whole

pub returns-clause-limited : goal.returns-clause-limited
returns-clause-limited c = reply-limited

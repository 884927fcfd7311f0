use Rattle.std.proofs.Common.{refl}
use Rattle.bx_lock_words.proofs.laws.written_reads.Goals as goal

pub returns : goal.returns
returns c = λ word is. record { is = is; kind_is = refl; body_is = refl }

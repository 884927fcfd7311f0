use Rattle.std.proofs.Common.{refl, inr}
use Rattle.bx_xdr.proofs.Grammar.{reads_more}
use Rattle.bx_nfs.proofs.laws.tail_passed_over.Goals as goal

pub returns : goal.returns
returns c = λ program procedure caller args text rest tail reads. inr (args, _, reads_more _ text rest tail reads, refl)

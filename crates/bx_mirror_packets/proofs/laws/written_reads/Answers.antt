use Rattle.std.proofs.Common.{refl}
use Rattle.bx_mirror_packets.proofs.Spelled.{counts_in}
use Rattle.bx_mirror_packets.proofs.laws.written_reads.Goals as goal

pub returns-clause-spells : goal.returns-clause-spells
returns-clause-spells c = λ message is. record { is = is; kind_is = refl; body_is = refl }

pub returns-clause-counts : goal.returns-clause-counts
returns-clause-counts c = counts_in

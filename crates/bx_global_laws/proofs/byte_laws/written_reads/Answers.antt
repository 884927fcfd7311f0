use Rattle.std.proofs.Common.{refl}
use Rattle.bx_global_laws.proofs.byte_laws.written_reads.Goals as goal

pub returns-clause-state : goal.returns-clause-state
returns-clause-state c = λ state is. record { is = is; parts = refl }

pub returns-clause-held : goal.returns-clause-held
returns-clause-held c = λ held devices is. record { is = is; parts = refl }

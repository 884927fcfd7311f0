use Rattle.bx_paxos.proofs.Events.{faults}
use Rattle.bx_paxos.proofs.Reading.{moment_reads}
use Rattle.bx_paxos.proofs.laws.a_replica_is_stopped.Goals as goal

pub returns-clause-faults : goal.returns-clause-faults
returns-clause-faults c = λ v x y past n held now found letter message fits three knows is comes does lengths either.
    faults v x y past n held now found letter message fits three knows is comes.sent comes.spells does lengths either

pub returns-clause-moment : goal.returns-clause-moment
returns-clause-moment c = moment_reads

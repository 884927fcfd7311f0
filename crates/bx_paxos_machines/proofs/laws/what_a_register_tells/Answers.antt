use Rattle.bx_paxos.proofs.Events.{is_legal}
use Rattle.bx_paxos_machines.specs.Cluster.{voters_of}
use Rattle.bx_paxos_machines.proofs.Telling.{places_at, reads_on}
use Rattle.bx_paxos_machines.proofs.laws.what_a_register_tells.Goals as goal

pub returns-clause-places : goal.returns-clause-places
returns-clause-places c = places_at

pub returns-clause-legal : goal.returns-clause-legal
returns-clause-legal c = λ g x past keeps. is_legal (voters_of g) x past keeps.fits

pub returns-clause-allowed : goal.returns-clause-allowed
returns-clause-allowed c = λ g x past s keeps place. keeps.fits.allowed s place

pub returns-clause-reads_next : goal.returns-clause-reads_next
returns-clause-reads_next c = reads_on

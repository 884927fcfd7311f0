use Rattle.bx_paxos_found.proofs.OneRead.{one_read}
use Rattle.bx_paxos_found.proofs.Refusals.{lack_reads}
use Rattle.bx_paxos_found.proofs.laws.one_state_is_read.Goals as goal

pub returns-clause-one : goal.returns-clause-one
returns-clause-one c = one_read

pub returns-clause-lack : goal.returns-clause-lack
returns-clause-lack c = lack_reads

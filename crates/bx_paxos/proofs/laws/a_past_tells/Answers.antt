use Rattle.bx_paxos.proofs.Events.{is_legal, is_place}
use Rattle.bx_paxos.proofs.OneReading.{one_reading}
use Rattle.bx_paxos.proofs.Reading.{reads}
use Rattle.bx_paxos.proofs.laws.a_past_tells.Goals as goal

pub returns-clause-place : goal.returns-clause-place
returns-clause-place c = is_place

pub returns-clause-legal : goal.returns-clause-legal
returns-clause-legal c = is_legal

pub returns-clause-allowed : goal.returns-clause-allowed
returns-clause-allowed c = λ v x past s fits place. fits.allowed s place

pub returns-clause-one : goal.returns-clause-one
returns-clause-one c = one_reading

pub returns-clause-reads : goal.returns-clause-reads
returns-clause-reads c = reads

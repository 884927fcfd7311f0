use Rattle.bx_paxos.proofs.Events.{loses, other_disks, survives, syncs}
use Rattle.bx_paxos.proofs.laws.disks_and_letters_may_change.Goals as goal

pub returns-clause-loses : goal.returns-clause-loses
returns-clause-loses c = loses

pub returns-clause-elsewhere : goal.returns-clause-elsewhere
returns-clause-elsewhere c = other_disks

pub returns-clause-survives : goal.returns-clause-survives
returns-clause-survives c = survives

pub returns-clause-syncs : goal.returns-clause-syncs
returns-clause-syncs c = syncs

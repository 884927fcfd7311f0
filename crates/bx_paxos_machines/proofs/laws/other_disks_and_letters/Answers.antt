use Rattle.bx_paxos_machines.proofs.Needs.{needs_far, needs_most, needs_up, room_of}
use Rattle.bx_paxos_machines.proofs.Telling.{crash_survives, elsewhere_keeps, loses_keeps}
use Rattle.bx_paxos_machines.proofs.laws.other_disks_and_letters.Goals as goal

pub returns-clause-elsewhere : goal.returns-clause-elsewhere
returns-clause-elsewhere c = elsewhere_keeps

pub returns-clause-survives : goal.returns-clause-survives
returns-clause-survives c = crash_survives

pub returns-clause-loses : goal.returns-clause-loses
returns-clause-loses c = loses_keeps

pub returns-clause-needs_little : goal.returns-clause-needs_little
returns-clause-needs_little c = needs_most

pub returns-clause-needs_none : goal.returns-clause-needs_none
returns-clause-needs_none c = needs_far

pub returns-clause-needs_up : goal.returns-clause-needs_up
returns-clause-needs_up c = needs_up

pub returns-clause-room : goal.returns-clause-room
returns-clause-room c = room_of

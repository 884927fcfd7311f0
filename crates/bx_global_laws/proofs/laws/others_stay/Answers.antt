use Rattle.bx_global.proofs.Rising.{devices_stay, master_stays, sessions_stay}
use Rattle.bx_global_laws.proofs.laws.others_stay.Goals as goal

pub returns-clause-sessions : goal.returns-clause-sessions
returns-clause-sessions c = sessions_stay

pub returns-clause-devices : goal.returns-clause-devices
returns-clause-devices c = devices_stay

pub returns-clause-master : goal.returns-clause-master
returns-clause-master c = master_stays

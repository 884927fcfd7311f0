use Rattle.bx_global.proofs.Rising.{closed_goes, row_stays, stays_gone}
use Rattle.bx_global_laws.proofs.laws.sessions_end.Goals as goal

pub returns-clause-stays : goal.returns-clause-stays
returns-clause-stays c = row_stays

pub returns-clause-closed : goal.returns-clause-closed
returns-clause-closed c = closed_goes

pub returns-clause-gone : goal.returns-clause-gone
returns-clause-gone c = stays_gone

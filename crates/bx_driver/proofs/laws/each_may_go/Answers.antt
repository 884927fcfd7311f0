use Rattle.bx_driver.proofs.Turns.{crash_allowed, restart_allowed}
use Rattle.bx_driver.proofs.laws.each_may_go.Goals as goal

pub returns-clause-crash : goal.returns-clause-crash
returns-clause-crash c = crash_allowed

pub returns-clause-restart : goal.returns-clause-restart
returns-clause-restart c = restart_allowed

use Rattle.bx_schedule.proofs.Each.{each_crashes, each_restarts}
use Rattle.bx_schedule.proofs.laws.each_has_its_turn.Goals as goal

pub returns-clause-crash : goal.returns-clause-crash
returns-clause-crash c = each_crashes

pub returns-clause-restart : goal.returns-clause-restart
returns-clause-restart c = each_restarts

use Rattle.bx_blink.proofs.OneEnd.{one_end}
use Rattle.bx_blink.proofs.OneRun.{one_run}
use Rattle.bx_blink.proofs.laws.a_search_has_one_end.Goals as goal

pub returns-clause-walk : goal.returns-clause-walk
returns-clause-walk c = one_end

pub returns-clause-run : goal.returns-clause-run
returns-clause-run c = one_run

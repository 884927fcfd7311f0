use Rattle.bx_recover.proofs.Logs.{the_log}
use Rattle.bx_recover.proofs.laws.what_was_read_is_the_log.Goals as goal

pub returns : goal.returns
returns c = λ held recovery steps records is gates bodies log. the_log held recovery steps records is gates bodies log

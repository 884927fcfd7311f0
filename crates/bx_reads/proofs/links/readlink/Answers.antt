use Rattle.bx_reads.proofs.Told.{linked, path_told, stops}
use Rattle.bx_reads.proofs.links.readlink.Goals as goal

pub returns-in-Err-clause-step : goal.returns-in-Err-clause-step
returns-in-Err-clause-step g c = λ truth tree same s. stops tree c.args.at.now c.args.areas truth (linked tree) c.in-Err.stop (c.in-Err.ensures.names truth tree same s)

pub returns-in-Ok-clause-step : goal.returns-in-Ok-clause-step
returns-in-Ok-clause-step g c = λ truth tree same s.
    path_told tree c.args.at.now c.args.areas truth c.args.volume c.in-Ok.field-0-0 c.in-Ok.inode s.volume_is (c.in-Ok.ensures.names truth tree same s) c.path_by.result c.path_by.ensures.link c.path_by.ensures.other

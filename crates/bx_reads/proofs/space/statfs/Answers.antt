use Rattle.bx_reads.proofs.FreeSpace.{by_areas, by_inode, space_told, stopped_space}
use Rattle.bx_files.specs.bx_chunks.specs.Counting.{free_slots}
use Rattle.bx_reads.proofs.space.statfs.Goals as goal

pub returns-in-Err-clause-step : goal.returns-in-Err-clause-step
returns-in-Err-clause-step g c = λ truth tree same s. stopped_space tree c.args.at.now (free_slots c.args.areas truth) c.args.areas truth c.in-Err.stop (c.in-Err.ensures.names truth tree same s)

pub returns-in-Err-clause-need : goal.returns-in-Err-clause-need
returns-in-Err-clause-need g c = by_inode (g.V.View.held c.args.view.now) c.args.volume c.args.areas c.args.at.now c.in-Err.stop c.in-Err.ensures.need

pub returns-clause-step : goal.returns-clause-step
returns-clause-step g c = λ truth tree same s.
    space_told tree c.args.at.now (free_slots c.args.areas truth) c.args.areas c.in-Ok.field-0.0 truth c.in-Ok.field-0.1 s.is.areas_are (c.in-Ok.ensures.names truth tree same s) c.space_of.result (c.space_of.ensures.is truth same s.is.chunked)

pub returns-clause-need : goal.returns-clause-need
returns-clause-need g c = by_areas (g.V.View.held c.args.view.now) c.args.volume c.args.areas c.args.at.now c.space_of.result c.space_of.ensures.need

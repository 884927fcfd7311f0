use Rattle.std.proofs.Common.{Option, Some, ℕ, subst}
use Rattle.std.specs.Prelude.{Ok}
use Rattle.bx_moving.specs.Ways.{TellsError}
use Rattle.bx_renaming.specs.Renaming.{moving_so, onto_errors}
use Rattle.bx_renaming.proofs.Comes.{both_passed, over_fails, over_passes, stopped_so}
use Rattle.bx_renaming.proofs.Passed.{over, over_comes}
use Rattle.bx_linking.proofs.Comes.{stop_first}
use Rattle.bx_linking.specs.Lacking.{MakesEither}
use Rattle.bx_renaming.proofs.onto.move_over.Goals as goal

pub returns-in-Err-clause-step : goal.returns-in-Err-clause-step
returns-in-Err-clause-step g c = λ volume truth tree are is had apart.
    stopped_so c.args.areas truth (moving_so tree are.source.file c.args.between.now.name.now are.target.file c.args.between.now.new_name.now is.at.file (Some had.at.file) c.args.between.now.time) (onto_errors tree are.source.file are.target.file is.at.file had.at.file) c.in-Err.stop
    (c.in-Err.ensures.step volume truth tree are is.at had.at)

pub returns-in-Ok-Some-clause-step : goal.returns-in-Ok-Some-clause-step
returns-in-Ok-Some-clause-step g c = λ volume truth tree are is had apart.
    over_fails tree are.source.file c.args.between.now.name.now are.target.file c.args.between.now.new_name.now is.at.file c.args.between.now.time had.at.file c.in-Ok-Some.status c.in-Ok-Some.field-0 c.in-Ok-Some.field-0-is (c.in-Ok-Some.ensures.step volume truth tree are is.at had.at)

pub returns-in-Ok-None-clause-step : goal.returns-in-Ok-None-clause-step
returns-in-Ok-None-clause-step g c = λ volume truth tree are is had apart.
    let none = subst (λ (o : Option ℕ). TellsError (onto_errors tree are.source.file are.target.file is.at.file had.at.file) (Ok o)) c.in-Ok-None.field-0-is (c.in-Ok-None.ensures.step volume truth tree are is.at had.at) in
    let both = both_passed tree are.source.file c.args.between.now.name.now are.target.file c.args.between.now.new_name.now is.at.file c.args.between.now.time had.at.file none in
    over_passes tree are.source.file c.args.between.now.name.now are.target.file c.args.between.now.new_name.now is.at.file c.args.between.now.time had.at.file c.args.areas truth none c.move_in.result
    (over_comes volume c.args.areas (g.V.View.held c.args.view.now) (g.V.View.hints c.args.view.now) truth tree c.args.between.now.places.now are c.args.between.now.name.now c.args.between.now.number c.args.between.now.moved.now is both.0 c.moving_of-moving.result c.moving_of-moving.ensures c.args.between.now.new_name.now c.args.second c.args.other.now had apart both.1 c.replaced_of-replaced.result c.replaced_of-replaced.ensures c.args.between.now.time c.move_in.result
    (c.move_in.ensures.step volume truth tree are (over volume c.args.areas (g.V.View.held c.args.view.now) (g.V.View.hints c.args.view.now) truth tree c.args.between.now.places.now are c.args.between.now.name.now c.args.between.now.number c.args.between.now.moved.now is both.0 c.moving_of-moving.result c.moving_of-moving.ensures c.args.between.now.new_name.now c.args.second c.args.other.now had apart both.1 c.replaced_of-replaced.result c.replaced_of-replaced.ensures)))

pub returns-in-Err-clause-lacks : goal.returns-in-Err-clause-lacks
returns-in-Err-clause-lacks g c = λ volume truth tree are. stop_first (Option ℕ) (MakesEither c.args.areas (g.V.View.held c.args.view.now) (g.V.View.hints c.args.view.now) truth c.args.between.now.places.now.target.inode.tree c.args.between.now.new_name.now c.args.between.now.places.now.target.inode.next) c.in-Err.stop c.in-Err.ensures.inner

pub returns-in-Ok-None-clause-lacks : goal.returns-in-Ok-None-clause-lacks
returns-in-Ok-None-clause-lacks g c = λ volume truth tree are. c.move_in.ensures.lacks volume truth tree are

pub returns-in-Ok-None-clause-finds : goal.returns-in-Ok-None-clause-finds
returns-in-Ok-None-clause-finds g c = λ volume truth tree are. c.move_in.ensures.finds volume truth tree are

pub returns-in-Ok-None-clause-wanted : goal.returns-in-Ok-None-clause-wanted
returns-in-Ok-None-clause-wanted g c = λ volume truth tree are. c.move_in.ensures.wanted volume truth tree are

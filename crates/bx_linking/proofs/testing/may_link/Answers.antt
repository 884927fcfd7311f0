use Rattle.std.proofs.Common.{ℕ, Option, subst}
use Rattle.std.specs.Prelude.{Ok}
use Rattle.bx_linking.specs.Linking.{LinkErrorIn}
use Rattle.bx_linking.proofs.Tested.{into, stopped, with_room}
use Rattle.bx_linking.proofs.testing.may_link.Goals as goal

pub returns-in-Err-clause-step : goal.returns-in-Err-clause-step
returns-in-Err-clause-step g c = λ volume truth tree is.
    stopped c.args.areas (g.V.View.held c.args.view.now) truth is.file.file is.at.file c.args.directory.now.inode c.args.name.now c.in-Err.stop (c.in-Err.ensures.step volume truth tree is)

pub returns-in-Ok-Some-clause-step : goal.returns-in-Ok-Some-clause-step
returns-in-Ok-Some-clause-step g c = λ volume truth tree is.
    subst (λ (o : Option ℕ). LinkErrorIn is.file.file is.at.file c.args.name.now (Ok o)) c.in-Ok-Some.field-0-is (c.in-Ok-Some.ensures.step volume truth tree is)

pub returns-in-Ok-None-clause-step : goal.returns-in-Ok-None-clause-step
returns-in-Ok-None-clause-step g c = λ volume truth tree is.
    with_room c.args.areas (g.V.View.held c.args.view.now) truth is.file.file is.at.file c.args.directory.now.inode c.args.name.now
    (subst (λ (o : Option ℕ). LinkErrorIn is.file.file is.at.file c.args.name.now (Ok o)) c.in-Ok-None.field-0-is (c.in-Ok-None.ensures.step volume truth tree is))
    c.room_for.result (c.room_for.ensures.step volume truth tree (into volume c.args.areas (g.V.View.held c.args.view.now) (g.V.View.hints c.args.view.now) truth tree c.args.file.now.handle c.args.file.now.inode c.args.directory.now.handle c.args.directory.now.inode c.args.name.now is))

pub returns-in-Ok-None-clause-lacks : goal.returns-in-Ok-None-clause-lacks
returns-in-Ok-None-clause-lacks g c = λ volume truth tree is.
    c.room_for.ensures.lacks volume truth tree (into volume c.args.areas (g.V.View.held c.args.view.now) (g.V.View.hints c.args.view.now) truth tree c.args.file.now.handle c.args.file.now.inode c.args.directory.now.handle c.args.directory.now.inode c.args.name.now is)

pub returns-in-Ok-None-clause-finds : goal.returns-in-Ok-None-clause-finds
returns-in-Ok-None-clause-finds g c = λ volume truth tree is.
    c.room_for.ensures.finds volume truth tree (into volume c.args.areas (g.V.View.held c.args.view.now) (g.V.View.hints c.args.view.now) truth tree c.args.file.now.handle c.args.file.now.inode c.args.directory.now.handle c.args.directory.now.inode c.args.name.now is)

use Rattle.bx_renaming.proofs.Tested.{empty, full, not_listed, not_onto, not_plain, plain_onto}
use Rattle.bx_renaming.proofs.testing.replace_error.Goals as goal

pub returns-then-moved-eq-DIRECTORY-clause-step : goal.returns-then-moved-eq-DIRECTORY-clause-step
returns-then-moved-eq-DIRECTORY-clause-step g c = λ volume truth tree is known. not_onto volume c.args.areas (g.V.View.held c.args.view.now) (g.V.View.hints c.args.view.now) truth tree c.args.moved.now.handle c.args.other.now.handle c.args.moved.now.inode c.args.other.now.inode is known c.if-other-ne-DIRECTORY.true c.if-moved-eq-DIRECTORY.true

pub returns-then-other-ne-DIRECTORY-clause-step : goal.returns-then-other-ne-DIRECTORY-clause-step
returns-then-other-ne-DIRECTORY-clause-step g c = λ volume truth tree is known. plain_onto volume c.args.areas (g.V.View.held c.args.view.now) (g.V.View.hints c.args.view.now) truth tree c.args.moved.now.handle c.args.other.now.handle c.args.moved.now.inode c.args.other.now.inode is known c.if-other-ne-DIRECTORY.true c.if-moved-eq-DIRECTORY.false

pub returns-then-moved-ne-DIRECTORY-clause-step : goal.returns-then-moved-ne-DIRECTORY-clause-step
returns-then-moved-ne-DIRECTORY-clause-step g c = λ volume truth tree is known. not_plain volume c.args.areas (g.V.View.held c.args.view.now) (g.V.View.hints c.args.view.now) truth tree c.args.moved.now.handle c.args.other.now.handle c.args.moved.now.inode c.args.other.now.inode is known c.if-other-ne-DIRECTORY.false c.if-moved-ne-DIRECTORY.true

pub returns-in-Err-clause-step : goal.returns-in-Err-clause-step
returns-in-Err-clause-step g c = λ volume truth tree is known. not_listed volume c.args.areas (g.V.View.held c.args.view.now) (g.V.View.hints c.args.view.now) truth tree c.args.moved.now.handle c.args.other.now.handle c.args.moved.now.inode c.args.other.now.inode is known c.if-other-ne-DIRECTORY.false c.in-Err.stop c.in-Err.ensures.list

pub returns-in-Ok-Some-clause-step : goal.returns-in-Ok-Some-clause-step
returns-in-Ok-Some-clause-step g c = λ volume truth tree is known.
    full volume c.args.areas (g.V.View.held c.args.view.now) (g.V.View.hints c.args.view.now) truth tree c.args.moved.now.handle c.args.other.now.handle c.args.moved.now.inode c.args.other.now.inode is known c.if-other-ne-DIRECTORY.false c.if-moved-ne-DIRECTORY.false c.in-Ok-Some.field-0 _ c.in-Ok-Some.field-0-is c.in-Ok-Some.ensures.list

pub returns-clause-step : goal.returns-clause-step
returns-clause-step g c = λ volume truth tree is known.
    empty volume c.args.areas (g.V.View.held c.args.view.now) (g.V.View.hints c.args.view.now) truth tree c.args.moved.now.handle c.args.other.now.handle c.args.moved.now.inode c.args.other.now.inode is known c.if-other-ne-DIRECTORY.false c.if-moved-ne-DIRECTORY.false c.in-Ok-None.field-0 c.in-Ok-None.field-0-is c.in-Ok-None.ensures.list

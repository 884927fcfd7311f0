use Rattle.bx_renaming.proofs.Tested.{by_way, is_one, within_one}
use Rattle.bx_renaming.proofs.testing.depth_error.Goals as goal

pub returns-then-places-clause-step : goal.returns-then-places-clause-step
returns-then-places-clause-step g c = λ volume truth tree are is. within_one volume c.args.areas (g.V.View.held c.args.view.now) (g.V.View.hints c.args.view.now) truth tree c.args.places.now are c.args.moved.now.handle c.args.moved.now.inode is c.if-places.true

pub returns-clause-step : goal.returns-clause-step
returns-clause-step g c = λ volume truth tree are is.
    by_way volume c.args.areas (g.V.View.held c.args.view.now) (g.V.View.hints c.args.view.now) truth tree c.args.places.now are c.args.moved.now.handle c.args.moved.now.inode is c.if-moved-ne-DIRECTORY.false c.if-places.false c.way_error.result
    (c.way_error.ensures.step volume truth tree are.same are.stands (is_one volume c.args.areas (g.V.View.held c.args.view.now) (g.V.View.hints c.args.view.now) truth tree c.args.places.now are c.args.moved.now.handle c.args.moved.now.inode is))

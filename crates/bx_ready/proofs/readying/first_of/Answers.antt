use Rattle.std.proofs.Common.{inl}
use Rattle.bx_ready.proofs.Both.{post_fails, then_splits}
use Rattle.bx_ready.proofs.readying.first_of.Goals as goal

pub returns-in-Ok-Some-clause-map : goal.returns-in-Ok-Some-clause-map
returns-in-Ok-Some-clause-map g c = λ truth tree u. inl ((rw c.in-Ok-Some.field-0-is at c.in-Ok-Some.ensures.map) truth tree u)

pub returns-in-Ok-None-clause-map : goal.returns-in-Ok-None-clause-map
returns-in-Ok-None-clause-map g c = λ truth tree u.
    then_splits c.args.at.now.areas (g.V.View.held c.args.view.now) (g.V.View.hints c.args.view.now) truth c.args.at.now.root tree c.args.at.now.key.now ((rw c.in-Ok-None.field-0-is at c.in-Ok-None.ensures.map) truth tree u) c.split_for.result
    (c.split_for.ensures.map truth tree u)

pub returns-in-Err-clause-map : goal.returns-in-Err-clause-map
returns-in-Err-clause-map g c = λ truth tree u.
    post_fails c.args.at.now.areas (g.V.View.held c.args.view.now) (g.V.View.hints c.args.view.now) truth c.args.at.now.root tree c.args.at.now.key.now c.in-Err.error (c.in-Err.ensures.map truth tree u)

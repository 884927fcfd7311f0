use Rattle.std.proofs.Common.{[], List, inl, refl}
use Rattle.bx_records.specs.Drafts.{Changed}
use Rattle.bx_moving.specs.Edits.{no_edit}
use Rattle.bx_moving.specs.Moves.{OnBringing, OnClearingName, brought, cleared}
use Rattle.bx_moving.proofs.Brought.{may_come}
use Rattle.bx_moving.proofs.Steps.{next_rests, over_stopped, stops_by, then_grows}
use Rattle.bx_moving.proofs.moves.bring.Goals as goal

pub returns-in-Err-clause-step : goal.returns-in-Err-clause-step
returns-in-Err-clause-step g c = λ truth tree old_name m.
    stops_by c.args.areas truth [] [] (cleared c.args.now tree c.args.moving.target c.args.name.now c.args.replaced) (brought c.args.now tree c.args.moving c.args.name.now c.args.replaced) c.in-Err.stop (c.in-Err.ensures.step truth tree c.args.moving old_name m refl)

pub returns-in-Ok-clause-step : goal.returns-in-Ok-clause-step
returns-in-Ok-clause-step g c = λ truth tree old_name m.
    let e = c.in-Ok.ensures.step truth tree c.args.moving old_name m refl in
    let r = next_rests c.args.areas (g.V.View.held c.args.view.now) (g.V.View.hints c.args.view.now) truth [] c.in-Ok.draft tree (cleared c.args.now tree c.args.moving.target c.args.name.now c.args.replaced) m.rests e in
    let k = may_come c.args.areas (g.V.View.held c.args.view.now) (g.V.View.hints c.args.view.now) truth tree c.args.moving old_name c.args.name.now c.args.replaced c.args.now m c.args.replaced m.other in
    then_grows c.args.areas truth [] c.in-Ok.draft (cleared c.args.now tree c.args.moving.target c.args.name.now c.args.replaced) (brought c.args.now tree c.args.moving c.args.name.now c.args.replaced) e c.come.result
    (c.come.ensures.step truth (cleared c.args.now tree c.args.moving.target c.args.name.now c.args.replaced) k.file k.parent k.next k.names r k.there k.body k.absent k.numbered k.left (c.in-Ok.ensures.rooms truth tree c.args.moving old_name m refl))

pub returns-in-Err-clause-need : goal.returns-in-Err-clause-need
returns-in-Err-clause-need g c =
    over_stopped c.args.areas (g.V.View.held c.args.view.now) (g.V.View.hints c.args.view.now) [] (OnClearingName (g.V.View.held c.args.view.now) (g.V.View.hints c.args.view.now) c.args.areas c.args.moving.target c.args.name.now c.args.replaced []) (OnBringing (g.V.View.held c.args.view.now) (g.V.View.hints c.args.view.now) c.args.areas c.args.moving c.args.name.now c.args.replaced) no_edit
    (λ at mode on. inl on) (List Changed) c.in-Err.stop c.in-Err.ensures.need

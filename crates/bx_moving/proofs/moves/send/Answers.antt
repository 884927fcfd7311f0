use Rattle.std.proofs.Common.{[], inr}
use Rattle.bx_model.specs.Edits.{changed}
use Rattle.bx_model.specs.Renaming.{renamed}
use Rattle.bx_tree_files.specs.Changes.{taken_out}
use Rattle.bx_moving.specs.Moves.{OnDying, OnSending, brought, ended, other_of, sent}
use Rattle.bx_moving.proofs.Brought.{dying_in, elsewhere_sent, leaves_by, moved_then}
use Rattle.bx_moving.proofs.Order.{comes_to}
use Rattle.bx_moving.proofs.Steps.{edits_same, next_rests, over_result, stops, then_comes, then_edits}
use Rattle.bx_moving.proofs.moves.send.Goals as goal

pub returns-in-Err-clause-step : goal.returns-in-Err-clause-step
returns-in-Err-clause-step g c = λ truth tree new_name m b counts.
    let r = next_rests c.args.areas (g.V.View.held c.args.view.now) (g.V.View.hints c.args.view.now) truth [] c.args.draft tree (brought c.args.now tree c.args.moving new_name c.args.replaced) m.rests b in
    let e = leaves_by c.args.areas (g.V.View.held c.args.view.now) (g.V.View.hints c.args.view.now) truth tree c.args.moving c.args.name.now new_name c.args.replaced c.args.now m in
    stops c.args.areas truth [] c.args.draft (changed (brought c.args.now tree c.args.moving new_name c.args.replaced) c.args.moving.source (taken_out c.args.now c.args.name.now c.args.moving.counts)) (renamed c.args.now tree m.source.file c.args.name.now m.target.file new_name m.moved (other_of tree c.args.moving m.target.names new_name c.args.replaced m.other)) c.in-Err.stop (c.in-Err.ensures.step truth (brought c.args.now tree c.args.moving new_name c.args.replaced) e.file e.parent e.next e.names e.entry r e.there e.body e.kind e.found e.number_is)

pub returns-in-Err-settle-clause-step : goal.returns-in-Err-settle-clause-step
returns-in-Err-settle-clause-step g c = λ truth tree new_name m b counts.
    let r = next_rests c.args.areas (g.V.View.held c.args.view.now) (g.V.View.hints c.args.view.now) truth [] c.args.draft tree (brought c.args.now tree c.args.moving new_name c.args.replaced) m.rests b in
    let e = leaves_by c.args.areas (g.V.View.held c.args.view.now) (g.V.View.hints c.args.view.now) truth tree c.args.moving c.args.name.now new_name c.args.replaced c.args.now m in
    let l = (c.in-Ok.ensures.step truth (brought c.args.now tree c.args.moving new_name c.args.replaced) e.file e.parent e.next e.names e.entry r e.there e.body e.kind e.found e.number_is) in
    let r2 = next_rests c.args.areas (g.V.View.held c.args.view.now) (g.V.View.hints c.args.view.now) truth c.args.draft c.in-Ok.draft (brought c.args.now tree c.args.moving new_name c.args.replaced) (changed (brought c.args.now tree c.args.moving new_name c.args.replaced) c.args.moving.source (taken_out c.args.now c.args.name.now c.args.moving.counts)) r l in
    stops c.args.areas truth [] c.in-Ok.draft (sent c.args.now tree c.args.moving c.args.name.now new_name c.args.replaced) (renamed c.args.now tree m.source.file c.args.name.now m.target.file new_name m.moved (other_of tree c.args.moving m.target.names new_name c.args.replaced m.other)) c.in-Err-settle.stop (c.in-Err-settle.ensures.step truth (changed (brought c.args.now tree c.args.moving new_name c.args.replaced) c.args.moving.source (taken_out c.args.now c.args.name.now c.args.moving.counts)) m.moved r2 (moved_then c.args.areas (g.V.View.held c.args.view.now) (g.V.View.hints c.args.view.now) truth tree c.args.moving c.args.name.now new_name c.args.replaced c.args.now m))

pub returns-in-Ok-settle-clause-step : goal.returns-in-Ok-settle-clause-step
returns-in-Ok-settle-clause-step g c = λ truth tree new_name m b counts.
    let r = next_rests c.args.areas (g.V.View.held c.args.view.now) (g.V.View.hints c.args.view.now) truth [] c.args.draft tree (brought c.args.now tree c.args.moving new_name c.args.replaced) m.rests b in
    let e = leaves_by c.args.areas (g.V.View.held c.args.view.now) (g.V.View.hints c.args.view.now) truth tree c.args.moving c.args.name.now new_name c.args.replaced c.args.now m in
    let l = (c.in-Ok.ensures.step truth (brought c.args.now tree c.args.moving new_name c.args.replaced) e.file e.parent e.next e.names e.entry r e.there e.body e.kind e.found e.number_is) in
    let r2 = next_rests c.args.areas (g.V.View.held c.args.view.now) (g.V.View.hints c.args.view.now) truth c.args.draft c.in-Ok.draft (brought c.args.now tree c.args.moving new_name c.args.replaced) (changed (brought c.args.now tree c.args.moving new_name c.args.replaced) c.args.moving.source (taken_out c.args.now c.args.name.now c.args.moving.counts)) r l in
    let s = c.in-Ok-settle.ensures.step truth (changed (brought c.args.now tree c.args.moving new_name c.args.replaced) c.args.moving.source (taken_out c.args.now c.args.name.now c.args.moving.counts)) m.moved r2 (moved_then c.args.areas (g.V.View.held c.args.view.now) (g.V.View.hints c.args.view.now) truth tree c.args.moving c.args.name.now new_name c.args.replaced c.args.now m) in
    let r3 = next_rests c.args.areas (g.V.View.held c.args.view.now) (g.V.View.hints c.args.view.now) truth c.in-Ok.draft c.in-Ok-settle.draft (changed (brought c.args.now tree c.args.moving new_name c.args.replaced) c.args.moving.source (taken_out c.args.now c.args.name.now c.args.moving.counts)) (sent c.args.now tree c.args.moving c.args.name.now new_name c.args.replaced) r2 s in
    let d = dying_in c.args.areas (g.V.View.held c.args.view.now) (g.V.View.hints c.args.view.now) truth tree c.args.moving c.args.name.now new_name c.args.replaced c.args.now m (sent c.args.now tree c.args.moving c.args.name.now new_name c.args.replaced) (elsewhere_sent c.args.areas (g.V.View.held c.args.view.now) (g.V.View.hints c.args.view.now) truth tree c.args.moving c.args.name.now new_name c.args.replaced c.args.now m) c.args.replaced m.other in
    let all = then_comes c.args.areas truth [] c.in-Ok.draft c.in-Ok-settle.draft (changed (brought c.args.now tree c.args.moving new_name c.args.replaced) c.args.moving.source (taken_out c.args.now c.args.name.now c.args.moving.counts)) (sent c.args.now tree c.args.moving c.args.name.now new_name c.args.replaced) (then_comes c.args.areas truth [] c.args.draft c.in-Ok.draft (brought c.args.now tree c.args.moving new_name c.args.replaced) (changed (brought c.args.now tree c.args.moving new_name c.args.replaced) c.args.moving.source (taken_out c.args.now c.args.name.now c.args.moving.counts)) b l) s in
    edits_same c.args.areas truth [] (ended c.args.now (sent c.args.now tree c.args.moving c.args.name.now new_name c.args.replaced) c.args.replaced d) (renamed c.args.now tree m.source.file c.args.name.now m.target.file new_name m.moved (other_of tree c.args.moving m.target.names new_name c.args.replaced m.other)) (comes_to c.args.areas (g.V.View.held c.args.view.now) (g.V.View.hints c.args.view.now) truth tree c.args.moving c.args.name.now new_name c.args.replaced c.args.now m counts) c.end.result
    (then_edits c.args.areas truth [] c.in-Ok-settle.draft (sent c.args.now tree c.args.moving c.args.name.now new_name c.args.replaced) (ended c.args.now (sent c.args.now tree c.args.moving c.args.name.now new_name c.args.replaced) c.args.replaced d) all c.end.result (c.end.ensures.step truth (sent c.args.now tree c.args.moving c.args.name.now new_name c.args.replaced) r3 d))

pub returns-in-Ok-settle-clause-need : goal.returns-in-Ok-settle-clause-need
returns-in-Ok-settle-clause-need g c = λ edited.
    over_result c.args.areas (g.V.View.held c.args.view.now) (g.V.View.hints c.args.view.now) c.in-Ok-settle.draft (OnDying (g.V.View.held c.args.view.now) (g.V.View.hints c.args.view.now) c.args.areas c.args.replaced c.in-Ok-settle.draft) (OnSending (g.V.View.held c.args.view.now) (g.V.View.hints c.args.view.now) c.args.areas c.args.moving c.args.name.now c.args.replaced)
    (c.in-Ok-settle.ensures.edits (c.in-Ok.ensures.edits edited)) (λ at mode on. inr (inr on)) c.end.result c.end.ensures.need

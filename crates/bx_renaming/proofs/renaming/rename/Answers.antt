use Rattle.bx_renaming.proofs.Comes.{between, is_first, is_renamed, is_stopped, no_places}
use Rattle.bx_linking.proofs.Lacks.{first_so, full_so}
use Rattle.bx_renaming.proofs.Lacks.{move_ready, prepares_move, ready_move}
use Rattle.bx_renaming.specs.Lacking.{PreparesMove}
use Rattle.bx_linking.proofs.Comes.{stop_comes}
use Rattle.std.proofs.Common.{◌≡◌}
use Rattle.std.specs.Prelude.{Err}
use Rattle.bx_model.specs.Renaming.{rename}
use Rattle.bx_renaming.specs.declared.places.Places.{Places}
use Rattle.bx_renaming.proofs.renaming.rename.Goals as goal

pub returns-in-Err-clause-step : goal.returns-in-Err-clause-step
returns-in-Err-clause-step g c = λ truth tree same s fit. no_places tree c.args.call.now c.args.names.now.from.now c.args.names.now.name.now c.args.names.now.to.now c.args.names.now.new_name.now c.args.now c.args.volume c.args.areas truth c.in-Err.stop (c.in-Err.ensures.step truth tree same s)

pub returns-in-Err-move_between-clause-step : goal.returns-in-Err-move_between-clause-step
returns-in-Err-move_between-clause-step g c = λ truth tree same s fit.
    let p = c.in-Ok.ensures.step truth tree same s in
    is_stopped tree c.args.call.now c.args.names.now.from.now c.args.names.now.name.now c.args.names.now.to.now c.args.names.now.new_name.now c.args.now c.args.volume c.args.areas truth c.in-Ok.places p c.in-Err-move_between.error
    (c.in-Err-move_between.ensures.step c.args.volume truth tree (between tree c.args.call.now c.args.names.now.from.now c.args.names.now.name.now c.args.names.now.to.now c.args.names.now.new_name.now c.args.now c.args.volume c.args.areas truth c.in-Ok.places p (g.V.View.held c.args.view.now) (g.V.View.hints c.args.view.now) c.requires.few same s fit))

pub returns-clause-step : goal.returns-clause-step
returns-clause-step g c = λ truth tree same s fit.
    let p = c.in-Ok.ensures.step truth tree same s in
    is_renamed tree c.args.call.now c.args.names.now.from.now c.args.names.now.name.now c.args.names.now.to.now c.args.names.now.new_name.now c.args.now c.args.volume c.args.areas truth c.in-Ok.places p s c.in-Ok-move_between.draft
    (c.in-Ok-move_between.ensures.step c.args.volume truth tree (between tree c.args.call.now c.args.names.now.from.now c.args.names.now.name.now c.args.names.now.to.now c.args.names.now.new_name.now c.args.now c.args.volume c.args.areas truth c.in-Ok.places p (g.V.View.held c.args.view.now) (g.V.View.hints c.args.view.now) c.requires.few same s fit))

pub returns-clause-hints : goal.returns-clause-hints
returns-clause-hints g c = λ hints truth tree same s fit other.
    let p = c.in-Ok.ensures.step truth tree same s in
    (c.in-Ok-move_between.ensures.step c.args.volume truth tree (between tree c.args.call.now c.args.names.now.from.now c.args.names.now.name.now c.args.names.now.to.now c.args.names.now.new_name.now c.args.now c.args.volume c.args.areas truth c.in-Ok.places p (g.V.View.held c.args.view.now) (g.V.View.hints c.args.view.now) c.requires.few same s fit)).leaves.leads hints other

pub returns-in-Err-move_between-clause-lacks : goal.returns-in-Err-move_between-clause-lacks
returns-in-Err-move_between-clause-lacks g c = λ truth tree same s fit.
    let p = c.in-Ok.ensures.step truth tree same s in
    let are = between tree c.args.call.now c.args.names.now.from.now c.args.names.now.name.now c.args.names.now.to.now c.args.names.now.new_name.now c.args.now c.args.volume c.args.areas truth c.in-Ok.places p (g.V.View.held c.args.view.now) (g.V.View.hints c.args.view.now) c.requires.few same s fit in
    is_first tree c.args.call.now c.args.names.now.from.now c.args.names.now.name.now c.args.names.now.to.now c.args.names.now.new_name.now c.args.now c.args.volume c.args.areas truth c.in-Ok.places p
    (PreparesMove c.args.volume c.args.areas (g.V.View.held c.args.view.now) (g.V.View.hints c.args.view.now) truth tree c.args.names.now.from.now c.args.names.now.name.now c.args.names.now.to.now c.args.names.now.new_name.now) c.in-Err-move_between.error (c.in-Err-move_between.ensures.step c.args.volume truth tree are)
    (first_so
    (prepares_move c.args.volume c.args.areas (g.V.View.held c.args.view.now) (g.V.View.hints c.args.view.now) truth tree c.args.names.now.from.now c.args.names.now.name.now c.args.names.now.to.now c.args.names.now.new_name.now c.in-Ok.places s.volume_is c.in-Ok.ensures.live p.source p.target)
    c.in-Err-move_between.error (c.in-Err-move_between.ensures.lacks c.args.volume truth tree are))

pub returns-in-Err-clause-lacks : goal.returns-in-Err-clause-lacks
returns-in-Err-clause-lacks g c = λ truth tree same s fit.
    stop_comes Places (λ status. rename tree c.args.call.now c.args.names.now.from.now c.args.names.now.name.now c.args.names.now.to.now c.args.names.now.new_name.now c.args.now 8 ≡ Err status)
    (PreparesMove c.args.volume c.args.areas (g.V.View.held c.args.view.now) (g.V.View.hints c.args.view.now) truth tree c.args.names.now.from.now c.args.names.now.name.now c.args.names.now.to.now c.args.names.now.new_name.now) c.in-Err.stop c.in-Err.ensures.inner

pub returns-clause-ready : goal.returns-clause-ready
returns-clause-ready g c = λ truth tree same s fit.
    let p = c.in-Ok.ensures.step truth tree same s in
    let are = between tree c.args.call.now c.args.names.now.from.now c.args.names.now.name.now c.args.names.now.to.now c.args.names.now.new_name.now c.args.now c.args.volume c.args.areas truth c.in-Ok.places p (g.V.View.held c.args.view.now) (g.V.View.hints c.args.view.now) c.requires.few same s fit in
    ready_move c.args.volume c.args.areas (g.V.View.held c.args.view.now) (g.V.View.hints c.args.view.now) truth tree c.args.names.now.from.now c.args.names.now.name.now c.args.names.now.to.now c.args.names.now.new_name.now c.in-Ok.places s.volume_is c.in-Ok.ensures.live p.source p.target
    (c.in-Ok-move_between.ensures.ready c.args.volume truth tree are)

pub returns-in-Err-move_between-clause-full : goal.returns-in-Err-move_between-clause-full
returns-in-Err-move_between-clause-full g c =
    full_so (λ spare none. record { handle = c.in-Ok.places.target.handle; is_named = c.in-Ok.ensures.live.target_named; none = none }) c.in-Err-move_between.error c.in-Err-move_between.ensures.full

pub returns-in-Err-move_between-clause-wanted : goal.returns-in-Err-move_between-clause-wanted
returns-in-Err-move_between-clause-wanted g c = λ truth tree same s fit.
    let p = c.in-Ok.ensures.step truth tree same s in
    let are = between tree c.args.call.now c.args.names.now.from.now c.args.names.now.name.now c.args.names.now.to.now c.args.names.now.new_name.now c.args.now c.args.volume c.args.areas truth c.in-Ok.places p (g.V.View.held c.args.view.now) (g.V.View.hints c.args.view.now) c.requires.few same s fit in
    full_so
    (λ spare no ready. no (move_ready c.args.volume c.args.areas (g.V.View.held c.args.view.now) (g.V.View.hints c.args.view.now) truth tree c.args.names.now.from.now c.args.names.now.name.now c.args.names.now.to.now c.args.names.now.new_name.now c.in-Ok.places s.volume_is c.in-Ok.ensures.live p.source p.target ready))
    c.in-Err-move_between.error (c.in-Err-move_between.ensures.wanted c.args.volume truth tree are)

use Rattle.bx_renaming.proofs.Comes.{moves_from, not_moved}
use Rattle.bx_renaming.proofs.Rooms.{from}
use Rattle.bx_linking.proofs.Comes.{stop_first}
use Rattle.std.proofs.Common.{ℕ}
use Rattle.bx_linking.specs.bx_entries.specs.declared.taking.Known.{Known}
use Rattle.bx_tree_files.specs.Names.{names_of}
use Rattle.bx_renaming.specs.Lacking.{MakesRoomFor}
use Rattle.bx_renaming.proofs.renaming.move_between.Goals as goal

pub returns-in-Err-clause-step : goal.returns-in-Err-clause-step
returns-in-Err-clause-step g c = λ volume truth tree are.
    not_moved tree are.source.file c.args.name.now are.target.file c.args.new_name.now c.args.now c.args.areas truth c.in-Err.stop
    (c.in-Err.ensures.step volume truth tree (from volume c.args.areas (g.V.View.held c.args.view.now) (g.V.View.hints c.args.view.now) truth tree c.args.places.now are))

pub returns-in-Ok-clause-step : goal.returns-in-Ok-clause-step
returns-in-Ok-clause-step g c = λ volume truth tree are.
    let is = c.in-Ok.ensures.step volume truth tree (from volume c.args.areas (g.V.View.held c.args.view.now) (g.V.View.hints c.args.view.now) truth tree c.args.places.now are) in
    moves_from tree are.source.file c.args.name.now are.target.file c.args.new_name.now c.args.now c.args.areas truth c.in-Ok.number c.in-Ok.moved is c.move_onto.result
    (c.move_onto.ensures.step volume truth tree are is)

pub returns-in-Ok-clause-lacks : goal.returns-in-Ok-clause-lacks
returns-in-Ok-clause-lacks g c = λ volume truth tree are.
    c.move_onto.ensures.lacks volume truth tree are (c.in-Ok.ensures.step volume truth tree (from volume c.args.areas (g.V.View.held c.args.view.now) (g.V.View.hints c.args.view.now) truth tree c.args.places.now are))

pub returns-in-Err-clause-lacks : goal.returns-in-Err-clause-lacks
returns-in-Err-clause-lacks g c = λ volume truth tree are.
    stop_first (ℕ × Known) (MakesRoomFor c.args.areas (g.V.View.held c.args.view.now) (g.V.View.hints c.args.view.now) truth c.args.places.now.target.inode.tree c.args.places.now.target.inode.next (names_of are.source.file.body) c.args.name.now (names_of are.target.file.body) c.args.new_name.now)
    c.in-Err.stop c.in-Err.ensures.inner

pub returns-in-Ok-clause-ready : goal.returns-in-Ok-clause-ready
returns-in-Ok-clause-ready g c = λ volume truth tree are.
    c.move_onto.ensures.ready volume truth tree are (c.in-Ok.ensures.step volume truth tree (from volume c.args.areas (g.V.View.held c.args.view.now) (g.V.View.hints c.args.view.now) truth tree c.args.places.now are))

pub returns-in-Ok-clause-wanted : goal.returns-in-Ok-clause-wanted
returns-in-Ok-clause-wanted g c = λ volume truth tree are.
    c.move_onto.ensures.wanted volume truth tree are (c.in-Ok.ensures.step volume truth tree (from volume c.args.areas (g.V.View.held c.args.view.now) (g.V.View.hints c.args.view.now) truth tree c.args.places.now are))

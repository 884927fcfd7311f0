use Rattle.std.proofs.Common.{arith}
use Rattle.bx_renaming.proofs.Rooms.{counts_so, into, may_move, moves_so, no_number, no_room}
use Rattle.bx_linking.proofs.Lacks.{full_never, room_wanted, so_ok}
use Rattle.bx_linking.proofs.Comes.{never_if}
use Rattle.bx_linking.specs.Lacking.{FindsBoth, MakesEither}
use Rattle.bx_renaming.proofs.coming.move_in.Goals as goal

pub returns-then-between-ge-LAST_NUMBER-clause-step : goal.returns-then-between-ge-LAST_NUMBER-clause-step
returns-then-between-ge-LAST_NUMBER-clause-step g c = λ volume truth tree are passed. no_number volume c.args.areas (g.V.View.held c.args.view.now) (g.V.View.hints c.args.view.now) truth tree c.args.between.now.places.now are c.args.between.now.name.now c.args.between.now.new_name.now c.args.between.now.time c.args.moving c.args.replaced passed c.if-between-ge-LAST_NUMBER.true

pub returns-in-Err-clause-step : goal.returns-in-Err-clause-step
returns-in-Err-clause-step g c = λ volume truth tree are passed.
    no_room volume c.args.areas (g.V.View.held c.args.view.now) (g.V.View.hints c.args.view.now) truth tree c.args.between.now.places.now are c.args.between.now.name.now c.args.between.now.new_name.now c.args.between.now.time c.args.moving c.args.replaced passed (let left = c.if-between-ge-LAST_NUMBER.false in omega (arith, left)) c.in-Err.error
    (c.in-Err.ensures.step volume truth tree (into volume c.args.areas (g.V.View.held c.args.view.now) (g.V.View.hints c.args.view.now) truth tree c.args.between.now.places.now are))

pub returns-in-Ok-clause-step : goal.returns-in-Ok-clause-step
returns-in-Ok-clause-step g c = λ volume truth tree are passed.
    let left = c.if-between-ge-LAST_NUMBER.false in
    let ready = c.in-Ok.ensures.step volume truth tree (into volume c.args.areas (g.V.View.held c.args.view.now) (g.V.View.hints c.args.view.now) truth tree c.args.between.now.places.now are) in
    moves_so volume c.args.areas (g.V.View.held c.args.view.now) (g.V.View.hints c.args.view.now) truth tree c.args.between.now.places.now are c.args.between.now.name.now c.args.between.now.new_name.now c.args.between.now.time c.args.moving c.args.replaced passed (omega (arith, left)) ready c.move_file.result
    (c.move_file.ensures.step truth tree (may_move volume c.args.areas (g.V.View.held c.args.view.now) (g.V.View.hints c.args.view.now) truth tree c.args.between.now.places.now are c.args.between.now.name.now c.args.between.now.new_name.now c.args.between.now.time c.args.moving c.args.replaced passed (omega (arith, left)) ready) (counts_so volume c.args.areas (g.V.View.held c.args.view.now) (g.V.View.hints c.args.view.now) truth tree c.args.between.now.places.now are c.args.between.now.name.now c.args.between.now.new_name.now c.args.between.now.time c.args.moving c.args.replaced passed (omega (arith, left)) ready))

pub returns-in-Err-clause-lacks : goal.returns-in-Err-clause-lacks
returns-in-Err-clause-lacks g c = λ volume truth tree are.
    c.in-Err.ensures.lacks volume truth tree (into volume c.args.areas (g.V.View.held c.args.view.now) (g.V.View.hints c.args.view.now) truth tree c.args.between.now.places.now are)

pub returns-in-Ok-clause-lacks : goal.returns-in-Ok-clause-lacks
returns-in-Ok-clause-lacks g c = λ volume truth tree are. never_if (MakesEither c.args.areas (g.V.View.held c.args.view.now) (g.V.View.hints c.args.view.now) truth c.args.between.now.places.now.target.inode.tree c.args.between.now.new_name.now c.args.between.now.places.now.target.inode.next) c.move_file.result c.move_file.ensures.inner

pub returns-in-Ok-clause-finds : goal.returns-in-Ok-clause-finds
returns-in-Ok-clause-finds g c = λ volume truth tree are.
    so_ok (FindsBoth c.args.areas truth c.args.between.now.places.now.target.inode.tree c.args.between.now.new_name.now c.args.between.now.places.now.target.inode.next)
    (c.in-Ok.ensures.finds volume truth tree (into volume c.args.areas (g.V.View.held c.args.view.now) (g.V.View.hints c.args.view.now) truth tree c.args.between.now.places.now are)) c.move_file.result

pub returns-in-Ok-clause-full : goal.returns-in-Ok-clause-full
returns-in-Ok-clause-full g c = full_never _ c.move_file.result c.move_file.ensures.full

pub returns-in-Err-clause-wanted : goal.returns-in-Err-clause-wanted
returns-in-Err-clause-wanted g c = λ volume truth tree are.
    room_wanted c.args.areas (g.V.View.held c.args.view.now) truth c.args.between.now.places.now.target.inode.tree c.args.between.now.new_name.now c.args.between.now.places.now.target.inode.next c.in-Err.error
    (c.in-Err.ensures.step volume truth tree (into volume c.args.areas (g.V.View.held c.args.view.now) (g.V.View.hints c.args.view.now) truth tree c.args.between.now.places.now are))

pub returns-in-Ok-clause-wanted : goal.returns-in-Ok-clause-wanted
returns-in-Ok-clause-wanted g c = λ volume truth tree are. full_never _ c.move_file.result c.move_file.ensures.full

use Rattle.std.proofs.Common.{inl, inr}
use Rattle.bx_creating.proofs.Placed.{enter_stops, make_stops, may_enter, places, room_stops}
use Rattle.bx_entries.specs.RoomFinding.{OnRoomPath}
use Rattle.bx_entries.specs.Lacking.{MakesEither}
use Rattle.bx_entries.proofs.Lacks.{full_so, never_first}
use Rattle.bx_entries.proofs.Stopped.{wider}
use Rattle.bx_entries.specs.bx_dirs.specs.Changes.{OnAddPath, entry_of}
use Rattle.bx_places.specs.Handles.{parts_of}
use Rattle.bx_creating.specs.Placing.{OnPlacing}
use Rattle.bx_creating.proofs.Made.{first_near}
use Rattle.bx_creating.proofs.placing.place_new.Goals as goal

pub returns-in-Err-clause-step : goal.returns-in-Err-clause-step
returns-in-Err-clause-step g c = λ volume truth tree body p b.
    room_stops volume c.args.areas (g.V.View.held c.args.view.now) (g.V.View.hints c.args.view.now) truth tree c.args.directory.handle c.args.directory.inode c.args.name.now p c.args.now c.args.inode body c.in-Err.error
    (c.in-Err.ensures.step volume truth tree p.directory)

pub returns-in-Err-make_new-clause-step : goal.returns-in-Err-make_new-clause-step
returns-in-Err-make_new-clause-step g c = λ volume truth tree body p b.
    make_stops volume c.args.areas (g.V.View.held c.args.view.now) (g.V.View.hints c.args.view.now) truth tree c.args.directory.handle c.args.directory.inode c.args.name.now p c.args.now c.args.inode body c.in-Err-make_new.error
    (c.in-Err-make_new.ensures.step truth tree body p.directory.few p.directory.same p.directory.stands.is b)

pub returns-in-Err-enter-clause-step : goal.returns-in-Err-enter-clause-step
returns-in-Err-enter-clause-step g c = λ volume truth tree body p b.
    let ready = c.in-Ok.ensures.step volume truth tree p.directory in
    let m = c.in-Ok-make_new.ensures.step truth tree body p.directory.few p.directory.same p.directory.stands.is b in
    enter_stops volume c.args.areas (g.V.View.held c.args.view.now) (g.V.View.hints c.args.view.now) truth tree c.args.directory.handle c.args.directory.inode c.args.name.now p c.args.now c.args.inode body ready c.in-Ok-make_new.draft
    c.in-Ok-make_new.made m c.in-Err-enter.error
    (c.in-Err-enter.ensures.step truth _ p.directory.at.file
    (may_enter volume c.args.areas (g.V.View.held c.args.view.now) (g.V.View.hints c.args.view.now) truth tree c.args.directory.handle c.args.directory.inode c.args.name.now p c.args.now c.args.inode body ready c.in-Ok-make_new.draft
    c.in-Ok-make_new.made m))

pub returns-in-Ok-enter-clause-step : goal.returns-in-Ok-enter-clause-step
returns-in-Ok-enter-clause-step g c = λ volume truth tree body p b.
    let ready = c.in-Ok.ensures.step volume truth tree p.directory in
    let m = c.in-Ok-make_new.ensures.step truth tree body p.directory.few p.directory.same p.directory.stands.is b in
    places volume c.args.areas (g.V.View.held c.args.view.now) (g.V.View.hints c.args.view.now) truth tree c.args.directory.handle c.args.directory.inode c.args.name.now p c.args.now c.args.inode body ready c.in-Ok-make_new.draft
    c.in-Ok-make_new.made m c.in-Ok-enter.draft
    (c.in-Ok-enter.ensures.step truth _ p.directory.at.file
    (may_enter volume c.args.areas (g.V.View.held c.args.view.now) (g.V.View.hints c.args.view.now) truth tree c.args.directory.handle c.args.directory.inode c.args.name.now p c.args.now c.args.inode body ready c.in-Ok-make_new.draft
    c.in-Ok-make_new.made m))

pub returns-in-Err-make_new-clause-lacks : goal.returns-in-Err-make_new-clause-lacks
returns-in-Err-make_new-clause-lacks g c = λ volume truth tree d.
    never_first (MakesEither c.args.areas (g.V.View.held c.args.view.now) (g.V.View.hints c.args.view.now) truth c.args.directory.inode.tree c.args.name.now c.args.directory.inode.next) c.in-Err-make_new.error c.in-Err-make_new.ensures.inner

pub returns-in-Err-enter-clause-lacks : goal.returns-in-Err-enter-clause-lacks
returns-in-Err-enter-clause-lacks g c = λ volume truth tree d.
    never_first (MakesEither c.args.areas (g.V.View.held c.args.view.now) (g.V.View.hints c.args.view.now) truth c.args.directory.inode.tree c.args.name.now c.args.directory.inode.next) c.in-Err-enter.error c.in-Err-enter.ensures.inner

pub returns-in-Ok-enter-clause-finds : goal.returns-in-Ok-enter-clause-finds
returns-in-Ok-enter-clause-finds g c = λ volume truth tree d. c.in-Ok.ensures.finds volume truth tree d

pub returns-in-Err-clause-need : goal.returns-in-Err-clause-need
returns-in-Err-clause-need g c =
    wider c.args.areas (g.V.View.held c.args.view.now) (OnRoomPath (parts_of c.args.directory.handle).area c.args.areas (g.V.View.held c.args.view.now) (g.V.View.hints c.args.view.now) c.args.directory.inode.tree c.args.name.now c.args.directory.inode.next)
    (OnPlacing c.args.areas (g.V.View.held c.args.view.now) (g.V.View.hints c.args.view.now) c.args.directory.handle c.args.directory.inode c.args.name.now) (λ at mode on. inl on) c.in-Err.error c.in-Err.ensures.need

pub returns-in-Err-enter-clause-need : goal.returns-in-Err-enter-clause-need
returns-in-Err-enter-clause-need g c =
    wider c.args.areas (g.V.View.held c.args.view.now) (OnAddPath (g.V.View.held c.args.view.now) (g.V.View.hints c.args.view.now) c.in-Ok-make_new.draft c.args.directory.inode.tree (entry_of c.args.directory.inode.next c.args.name.now c.in-Ok-make_new.made)) (OnPlacing c.args.areas (g.V.View.held c.args.view.now) (g.V.View.hints c.args.view.now) c.args.directory.handle c.args.directory.inode c.args.name.now)
    (λ at mode on. inr (inr (record { draft = c.in-Ok-make_new.draft; made = c.in-Ok-make_new.made; is = rw c.of-near.ensures at c.in-Ok-make_new.ensures.made; on = on }))) c.in-Err-enter.error c.in-Err-enter.ensures.need

pub returns-in-Err-enter-clause-full : goal.returns-in-Err-enter-clause-full
returns-in-Err-enter-clause-full g c = full_so (λ spare never. absurd never) c.in-Err-enter.error c.in-Err-enter.ensures.full

pub returns-in-Ok-enter-clause-near : goal.returns-in-Ok-enter-clause-near
returns-in-Ok-enter-clause-near g c = first_near (g.V.View.held c.args.view.now) (parts_of c.args.directory.handle).area c.args.areas c.in-Ok-make_new.draft c.in-Ok-make_new.made (rw c.of-near.ensures at c.in-Ok-make_new.ensures.made)

use Rattle.std.proofs.Common.{◌≡◌, [], Err, Ok, sym}
use Rattle.bx_tree_files.specs.declared.file.Body.TheVariants.{Names}
use Rattle.bx_tree_laws.proofs.Makings.{mkdir_keeps}
use Rattle.bx_creating.specs.Inodes.{directory_inode}
use Rattle.bx_creating.proofs.Created.{comes_so, last_is, last_mkdir, makes, mkdir_is, not_found, not_placed, placed, told}
use Rattle.bx_model.specs.Making.{mkdir}
use Rattle.bx_entries.specs.Lacking.{MakesPlace}
use Rattle.bx_entries.proofs.Lacks.{enters, first_so, full_so}
use Rattle.bx_creating.proofs.First.{made_first, stop_comes}
use Rattle.bx_entries.specs.declared.taking.Known.{Known}
use Rattle.bx_creating.proofs.directories.mkdir.Goals as goal

pub returns-in-Err-clause-step : goal.returns-in-Err-clause-step
returns-in-Err-clause-step g c = λ truth tree same s fit.
    not_found c.args.volume c.args.areas (g.V.View.held c.args.view.now) (g.V.View.hints c.args.view.now) truth tree c.args.call.now c.args.at.now c.args.name.now s _ (last_mkdir tree c.args.call.now c.args.at.now c.args.name.now c.args.sattr.now c.args.now)
    (mkdir_is tree c.args.call.now c.args.at.now c.args.name.now c.args.sattr.now c.args.now) c.in-Err.stop (c.in-Err.ensures.step truth tree same s fit)

pub returns-in-Err-place_new-clause-step : goal.returns-in-Err-place_new-clause-step
returns-in-Err-place_new-clause-step g c = λ truth tree same s fit.
    let f = c.in-Ok.ensures.step truth tree same s fit in
    not_placed c.args.volume c.args.areas (g.V.View.held c.args.view.now) (g.V.View.hints c.args.view.now) truth tree c.args.call.now c.args.at.now c.args.name.now s _ (last_mkdir tree c.args.call.now c.args.at.now c.args.name.now c.args.sattr.now c.args.now)
    (mkdir_is tree c.args.call.now c.args.at.now c.args.name.now c.args.sattr.now c.args.now) c.in-Ok.directory f c.args.now (directory_inode c.args.call.now c.args.sattr.now c.args.now c.in-Ok.directory.handle) (Names c.in-Ok.directory.handle 3 [])
    c.in-Err-place_new.error
    (placed tree c.args.call.now c.args.at.now c.args.name.now c.args.sattr.now c.args.now c.args.areas truth c.in-Ok.directory.handle c.directory_inode-inode.result (Err c.in-Err-place_new.error) c.directory_inode-inode.ensures.is
    (λ body new. c.in-Err-place_new.ensures.step c.args.volume truth tree body f.place new))

pub returns-in-Ok-told_of-clause-step : goal.returns-in-Ok-told_of-clause-step
returns-in-Ok-told_of-clause-step g c = λ truth tree same s fit.
    let f = c.in-Ok.ensures.step truth tree same s fit in
    let parent = c.in-Ok.directory.handle in
    let p = placed tree c.args.call.now c.args.at.now c.args.name.now c.args.sattr.now c.args.now c.args.areas truth parent c.directory_inode-inode.result (Ok (c.in-Ok-place_new.draft, c.in-Ok-place_new.made)) c.directory_inode-inode.ensures.is
    (λ body new. c.in-Ok-place_new.ensures.step c.args.volume truth tree body f.place new) in
    let reply = told tree c.args.call.now c.args.at.now c.args.name.now c.args.sattr.now c.args.now c.args.volume parent c.in-Ok-place_new.made c.directory_inode-inode-in-Ok-place_new.result c.in-Ok-told_of.reply
    c.directory_inode-inode-in-Ok-place_new.ensures.is s.volume_is c.in-Ok-told_of.ensures in
    makes c.args.volume c.args.areas (g.V.View.held c.args.view.now) (g.V.View.hints c.args.view.now) truth tree c.args.call.now c.args.at.now c.args.name.now s _ (last_mkdir tree c.args.call.now c.args.at.now c.args.name.now c.args.sattr.now c.args.now)
    (mkdir_is tree c.args.call.now c.args.at.now c.args.name.now c.args.sattr.now c.args.now) c.in-Ok.directory f c.args.now (directory_inode c.args.call.now c.args.sattr.now c.args.now parent) (Names parent 3 []) c.in-Ok-place_new.draft
    c.in-Ok-told_of.reply c.in-Ok-place_new.made p
    (last_is tree c.args.call.now c.args.at.now c.args.name.now c.args.sattr.now c.args.now f.place.directory.at.file parent c.in-Ok-place_new.made c.in-Ok-told_of.reply f.place.directory.at.handle_is reply)
    (mkdir_keeps tree s.file_tree c.args.call.now c.args.name.now c.args.sattr.now c.args.now c.args.at.now 8)

pub returns-in-Ok-told_of-clause-hints : goal.returns-in-Ok-told_of-clause-hints
returns-in-Ok-told_of-clause-hints g c = λ other truth tree same s fit other_fit.
    let f = c.in-Ok.ensures.step truth tree same s fit in
    let p = placed tree c.args.call.now c.args.at.now c.args.name.now c.args.sattr.now c.args.now c.args.areas truth c.in-Ok.directory.handle c.directory_inode-inode.result (Ok (c.in-Ok-place_new.draft, c.in-Ok-place_new.made))
    c.directory_inode-inode.ensures.is (λ body new. c.in-Ok-place_new.ensures.step c.args.volume truth tree body f.place new) in
    p.leads other other_fit

pub returns-in-Err-place_new-clause-lacks : goal.returns-in-Err-place_new-clause-lacks
returns-in-Err-place_new-clause-lacks g c = λ truth tree same s fit.
    let f = c.in-Ok.ensures.step truth tree same s fit in
    made_first (mkdir tree c.args.call.now c.args.at.now c.args.name.now c.args.sattr.now c.args.now 8) _
    (comes_so c.args.volume c.args.areas (g.V.View.held c.args.view.now) (g.V.View.hints c.args.view.now) truth tree c.args.call.now c.args.at.now c.args.name.now s _ (last_mkdir tree c.args.call.now c.args.at.now c.args.name.now c.args.sattr.now c.args.now)
    (mkdir_is tree c.args.call.now c.args.at.now c.args.name.now c.args.sattr.now c.args.now) c.in-Ok.directory f)
    (MakesPlace c.args.volume c.args.areas (g.V.View.held c.args.view.now) (g.V.View.hints c.args.view.now) truth c.args.at.now c.args.name.now) c.in-Err-place_new.error
    (first_so (λ blocks made. record { handle = c.in-Ok.directory.handle; inode = c.in-Ok.directory.inode; is_named = c.in-Ok.ensures.live.is_named; holds = f.place.directory.at.holds; makes = made }) c.in-Err-place_new.error
    (c.in-Err-place_new.ensures.lacks c.args.volume truth tree f.place.directory))

pub returns-in-Err-clause-lacks : goal.returns-in-Err-clause-lacks
returns-in-Err-clause-lacks g c = λ truth tree same s fit.
    stop_comes Known (λ status. mkdir tree c.args.call.now c.args.at.now c.args.name.now c.args.sattr.now c.args.now 8 ≡ Err status) (MakesPlace c.args.volume c.args.areas (g.V.View.held c.args.view.now) (g.V.View.hints c.args.view.now) truth c.args.at.now c.args.name.now) c.in-Err.stop c.in-Err.ensures.inner

pub returns-in-Ok-told_of-clause-ready : goal.returns-in-Ok-told_of-clause-ready
returns-in-Ok-told_of-clause-ready g c = λ truth tree same s fit.
    let f = c.in-Ok.ensures.step truth tree same s fit in
    enters c.args.volume c.args.areas truth c.args.at.now c.args.name.now c.in-Ok.directory.handle c.in-Ok.directory.inode (sym c.in-Ok.ensures.live.is_named) f.place.directory.at.holds (c.in-Ok-place_new.ensures.finds c.args.volume truth tree f.place.directory)

pub returns-in-Err-place_new-clause-full : goal.returns-in-Err-place_new-clause-full
returns-in-Err-place_new-clause-full g c = full_so (λ spare none. record { handle = c.in-Ok.directory.handle; is_named = c.in-Ok.ensures.live.is_named; none = none }) c.in-Err-place_new.error c.in-Err-place_new.ensures.full

pub returns-in-Ok-told_of-clause-near : goal.returns-in-Ok-told_of-clause-near
returns-in-Ok-told_of-clause-near g c = record { handle = c.in-Ok.directory.handle; is_named = c.in-Ok.ensures.live.is_named; first = c.in-Ok-place_new.ensures.near }

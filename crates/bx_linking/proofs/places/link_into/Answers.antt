use Rattle.std.proofs.Common.{inl, inr, sym}
use Rattle.bx_entries.specs.bx_dirs.specs.Changes.{OnAddPath, entry_of}
use Rattle.bx_model.specs.Reading.{named_file}
use Rattle.bx_linking.specs.Linking.{OnInto, OnTest, linking}
use Rattle.bx_linking.proofs.Comes.{both, into, is_linked, lacks_room, needs_by, needs_if, never_if, no_directory, no_name, not_linked, stop_first}
use Rattle.bx_entries.proofs.Lacks.{enters, first_so, full_never, full_so, so_ok}
use Rattle.bx_entries.specs.Lacking.{MakesPlace, ReadyToEnter}
use Rattle.bx_layout.specs.declared.inode.Inode.{Inode}
use Rattle.bx_linking.proofs.places.link_into.Goals as goal

pub returns-in_default-clause-step : goal.returns-in_default-clause-step
returns-in_default-clause-step g c = λ truth tree same s fit is. no_name tree c.args.call.now is.file c.args.name.now c.args.now c.args.volume c.args.at.now s.volume_is c.in_default.ensures

pub returns-in-Err-clause-step : goal.returns-in-Err-clause-step
returns-in-Err-clause-step g c = λ truth tree same s fit is. no_directory tree c.args.call.now is.file c.args.name.now c.args.now c.args.volume c.args.at.now s.volume_is c.in-Some.handle c.in-Some.ensures c.args.areas truth c.in-Err.stop (c.in-Err.ensures.step truth tree same s.is)

pub returns-in-Err-may_link-clause-step : goal.returns-in-Err-may_link-clause-step
returns-in-Err-may_link-clause-step g c = λ truth tree same s fit is.
    let m = c.in-Ok.ensures.step truth tree same s.is in
    let b = both tree c.args.call.now is.file c.args.name.now c.args.now c.args.volume c.args.at.now s.volume_is c.in-Some.handle c.in-Some.ensures c.args.areas truth c.in-Ok.inode m (g.V.View.held c.args.view.now) (g.V.View.hints c.args.view.now) c.args.file.inode c.args.file.handle c.requires.few same s fit is in
    not_linked c.args.areas truth (λ spare. linking tree c.args.call.now is.file c.args.name.now c.args.now spare (named_file tree c.args.at.now)) tree is.file m.at.file c.args.name.now c.args.now (into tree c.args.call.now is.file c.args.name.now c.args.now c.args.volume c.args.at.now s.volume_is c.in-Some.handle c.in-Some.ensures c.args.areas truth c.in-Ok.inode m) (g.V.View.held c.args.view.now) c.in-Ok.inode c.in-Err-may_link.error
    (c.in-Err-may_link.ensures.step c.args.volume truth tree b)

pub returns-in-Err-may_link-clause-need : goal.returns-in-Err-may_link-clause-need
returns-in-Err-may_link-clause-need g c =
    needs_by c.args.areas (g.V.View.held c.args.view.now) (OnTest c.args.areas (g.V.View.held c.args.view.now) (g.V.View.hints c.args.view.now) c.in-Some.handle c.in-Ok.inode c.args.name.now) (OnInto (g.V.View.held c.args.view.now) (g.V.View.hints c.args.view.now) c.args.volume c.args.areas c.args.file.handle c.args.at.now c.args.name.now)
    (λ at mode on. inr (record { directory = c.in-Some.handle; inode = c.in-Ok.inode; is_named = sym c.in-Some.ensures; live = c.in-Ok.ensures.live; on = inl on })) c.in-Err-may_link.error c.in-Err-may_link.ensures.need

pub returns-in-Ok-may_link-clause-step : goal.returns-in-Ok-may_link-clause-step
returns-in-Ok-may_link-clause-step g c = λ truth tree same s fit is.
    let m = c.in-Ok.ensures.step truth tree same s.is in
    let b = both tree c.args.call.now is.file c.args.name.now c.args.now c.args.volume c.args.at.now s.volume_is c.in-Some.handle c.in-Some.ensures c.args.areas truth c.in-Ok.inode m (g.V.View.held c.args.view.now) (g.V.View.hints c.args.view.now) c.args.file.inode c.args.file.handle c.requires.few same s fit is in
    let may = c.in-Ok-may_link.ensures.step c.args.volume truth tree b in
    is_linked c.args.areas truth (λ spare. linking tree c.args.call.now is.file c.args.name.now c.args.now spare (named_file tree c.args.at.now)) tree is.file m.at.file c.args.name.now c.args.now (into tree c.args.call.now is.file c.args.name.now c.args.now c.args.volume c.args.at.now s.volume_is c.in-Some.handle c.in-Some.ensures c.args.areas truth c.in-Ok.inode m) may.none c.link_file.result
    (c.link_file.ensures.step c.args.volume truth tree b may)

pub returns-in-Ok-may_link-clause-need : goal.returns-in-Ok-may_link-clause-need
returns-in-Ok-may_link-clause-need g c =
    needs_if c.args.areas (g.V.View.held c.args.view.now) (OnAddPath (g.V.View.held c.args.view.now) (g.V.View.hints c.args.view.now) _ c.in-Ok.inode.tree (entry_of c.in-Ok.inode.next c.args.name.now c.args.file.handle)) (OnInto (g.V.View.held c.args.view.now) (g.V.View.hints c.args.view.now) c.args.volume c.args.areas c.args.file.handle c.args.at.now c.args.name.now)
    (λ at mode on. inr (record { directory = c.in-Some.handle; inode = c.in-Ok.inode; is_named = sym c.in-Some.ensures; live = c.in-Ok.ensures.live; on = inr on })) c.link_file.result c.link_file.ensures.need

pub returns-in-Err-may_link-clause-lacks : goal.returns-in-Err-may_link-clause-lacks
returns-in-Err-may_link-clause-lacks g c = λ truth tree same s fit is.
    let m = c.in-Ok.ensures.step truth tree same s.is in
    let b = both tree c.args.call.now is.file c.args.name.now c.args.now c.args.volume c.args.at.now s.volume_is c.in-Some.handle c.in-Some.ensures c.args.areas truth c.in-Ok.inode m (g.V.View.held c.args.view.now) (g.V.View.hints c.args.view.now) c.args.file.inode c.args.file.handle c.requires.few same s fit is in
    first_so (λ blocks make. record { handle = c.in-Some.handle; inode = c.in-Ok.inode; is_named = sym c.in-Some.ensures; holds = m.at.holds; makes = make }) c.in-Err-may_link.error (c.in-Err-may_link.ensures.lacks c.args.volume truth tree b)

pub returns-in-Err-clause-lacks : goal.returns-in-Err-clause-lacks
returns-in-Err-clause-lacks g c = λ truth tree same s fit is. stop_first Inode (MakesPlace c.args.volume c.args.areas (g.V.View.held c.args.view.now) (g.V.View.hints c.args.view.now) truth c.args.at.now c.args.name.now) c.in-Err.stop c.in-Err.ensures.inner

pub returns-in-Ok-may_link-clause-lacks : goal.returns-in-Ok-may_link-clause-lacks
returns-in-Ok-may_link-clause-lacks g c = λ truth tree same s fit is. never_if (MakesPlace c.args.volume c.args.areas (g.V.View.held c.args.view.now) (g.V.View.hints c.args.view.now) truth c.args.at.now c.args.name.now) c.link_file.result c.link_file.ensures.inner

pub returns-in-Ok-may_link-clause-ready : goal.returns-in-Ok-may_link-clause-ready
returns-in-Ok-may_link-clause-ready g c = λ truth tree same s fit is.
    let m = c.in-Ok.ensures.step truth tree same s.is in
    let b = both tree c.args.call.now is.file c.args.name.now c.args.now c.args.volume c.args.at.now s.volume_is c.in-Some.handle c.in-Some.ensures c.args.areas truth c.in-Ok.inode m (g.V.View.held c.args.view.now) (g.V.View.hints c.args.view.now) c.args.file.inode c.args.file.handle c.requires.few same s fit is in
    so_ok (ReadyToEnter c.args.volume c.args.areas truth c.args.at.now c.args.name.now)
    (enters c.args.volume c.args.areas truth c.args.at.now c.args.name.now c.in-Some.handle c.in-Ok.inode c.in-Some.ensures m.at.holds (c.in-Ok-may_link.ensures.finds c.args.volume truth tree b)) c.link_file.result

pub returns-in-Err-may_link-clause-full : goal.returns-in-Err-may_link-clause-full
returns-in-Err-may_link-clause-full g c = full_so (λ spare none. record { handle = c.in-Some.handle; is_named = sym c.in-Some.ensures; none = none }) c.in-Err-may_link.error c.in-Err-may_link.ensures.full

pub returns-in-Ok-may_link-clause-full : goal.returns-in-Ok-may_link-clause-full
returns-in-Ok-may_link-clause-full g c = full_never _ c.link_file.result c.link_file.ensures.full

pub returns-in-Err-may_link-clause-wanted : goal.returns-in-Err-may_link-clause-wanted
returns-in-Err-may_link-clause-wanted g c = λ truth tree same s fit is.
    let m = c.in-Ok.ensures.step truth tree same s.is in
    let b = both tree c.args.call.now is.file c.args.name.now c.args.now c.args.volume c.args.at.now s.volume_is c.in-Some.handle c.in-Some.ensures c.args.areas truth c.in-Ok.inode m (g.V.View.held c.args.view.now) (g.V.View.hints c.args.view.now) c.args.file.inode c.args.file.handle c.requires.few same s fit is in
    full_so (λ spare no ready. no (ready c.in-Some.handle c.in-Ok.inode (sym c.in-Some.ensures) m.at.holds)) c.in-Err-may_link.error
    (lacks_room c.args.areas (g.V.View.held c.args.view.now) truth is.file m.at.file c.in-Ok.inode c.args.name.now c.in-Err-may_link.error (c.in-Err-may_link.ensures.step c.args.volume truth tree b))

pub returns-in-Ok-may_link-clause-wanted : goal.returns-in-Ok-may_link-clause-wanted
returns-in-Ok-may_link-clause-wanted g c = λ truth tree same s fit is. full_never _ c.link_file.result c.link_file.ensures.full

use Rattle.bx_creating.proofs.CreateWhole.{list, made_new, new_first, new_ready, not_over, not_searched, over, over_first, over_ready, without}
use Rattle.std.proofs.Common.{◌≡◌, ℕ, Option, inl, inr, refl}
use Rattle.std.proofs.lemmas.Result.{IfOk-weaker}
use Rattle.std.specs.Prelude.{Err}
use Rattle.bx_model.specs.Making.{create_at}
use Rattle.bx_tree_files.specs.Entries.{entry_named}
use Rattle.bx_tree_files.specs.Names.{names_of}
use Rattle.bx_creating.specs.Lacking.{PreparesFromDirectory}
use Rattle.bx_creating.proofs.First.{stop_comes}
use Rattle.bx_creating.proofs.Needed.{placing_needs}
use Rattle.bx_creating.proofs.creating.create_in.Goals as goal

pub returns-in-Err-clause-step : goal.returns-in-Err-clause-step
returns-in-Err-clause-step g c = λ truth tree s.
    let l = list c.args.volume c.args.areas (g.V.View.held c.args.view.now) (g.V.View.hints c.args.view.now) truth tree c.args.directory.handle c.args.directory.inode c.args.name.now s c.args.call.now c.args.sattr.now c.args.now in
    not_searched c.args.volume c.args.areas (g.V.View.held c.args.view.now) (g.V.View.hints c.args.view.now) truth tree c.args.directory.handle c.args.directory.inode c.args.name.now s c.args.call.now c.args.sattr.now c.args.now c.in-Err.stop
    (c.in-Err.ensures.list truth l.names l.entries)

pub returns-in-None-clause-step : goal.returns-in-None-clause-step
returns-in-None-clause-step g c = λ truth tree s.
    let l = list c.args.volume c.args.areas (g.V.View.held c.args.view.now) (g.V.View.hints c.args.view.now) truth tree c.args.directory.handle c.args.directory.inode c.args.name.now s c.args.call.now c.args.sattr.now c.args.now in
    made_new c.args.volume c.args.areas (g.V.View.held c.args.view.now) (g.V.View.hints c.args.view.now) truth tree c.args.directory.handle c.args.directory.inode c.args.name.now s c.args.call.now c.args.sattr.now c.args.now
    ((rw c.in-None.is at c.in-Ok.ensures.list) truth l.names l.entries) c.create_new.result (λ w. c.create_new.ensures.step truth tree w)

pub returns-in-None-clause-hints : goal.returns-in-None-clause-hints
returns-in-None-clause-hints g c = λ other truth tree s fit.
    let l = list c.args.volume c.args.areas (g.V.View.held c.args.view.now) (g.V.View.hints c.args.view.now) truth tree c.args.directory.handle c.args.directory.inode c.args.name.now s c.args.call.now c.args.sattr.now c.args.now in
    c.create_new.ensures.hints other truth tree
    (without c.args.volume c.args.areas (g.V.View.held c.args.view.now) (g.V.View.hints c.args.view.now) truth tree c.args.directory.handle c.args.directory.inode c.args.name.now s c.args.call.now c.args.sattr.now c.args.now
    ((rw c.in-None.is at c.in-Ok.ensures.list) truth l.names l.entries)) fit

pub returns-in-Err-create_over-clause-step : goal.returns-in-Err-create_over-clause-step
returns-in-Err-create_over-clause-step g c = λ truth tree s.
    let l = list c.args.volume c.args.areas (g.V.View.held c.args.view.now) (g.V.View.hints c.args.view.now) truth tree c.args.directory.handle c.args.directory.inode c.args.name.now s c.args.call.now c.args.sattr.now c.args.now in
    not_over c.args.volume c.args.areas (g.V.View.held c.args.view.now) (g.V.View.hints c.args.view.now) truth tree c.args.directory.handle c.args.directory.inode c.args.name.now s c.args.call.now c.args.sattr.now c.args.now c.in-Some.handle
    ((rw c.in-Some.is at c.in-Ok.ensures.list) truth l.names l.entries) c.in-Err-create_over.stop
    (c.in-Err-create_over.ensures.step truth tree s.directory.few s.directory.same s.directory.stands s.directory.fit)

pub returns-clause-step : goal.returns-clause-step
returns-clause-step g c = λ truth tree s.
    let l = list c.args.volume c.args.areas (g.V.View.held c.args.view.now) (g.V.View.hints c.args.view.now) truth tree c.args.directory.handle c.args.directory.inode c.args.name.now s c.args.call.now c.args.sattr.now c.args.now in
    over c.args.volume c.args.areas (g.V.View.held c.args.view.now) (g.V.View.hints c.args.view.now) truth tree c.args.directory.handle c.args.directory.inode c.args.name.now s c.args.call.now c.args.sattr.now c.args.now c.in-Some.handle
    ((rw c.in-Some.is at c.in-Ok.ensures.list) truth l.names l.entries) c.in-Ok-create_over.draft c.in-Ok-create_over.reply
    (c.in-Ok-create_over.ensures.step truth tree s.directory.few s.directory.same s.directory.stands s.directory.fit)

pub returns-clause-hints : goal.returns-clause-hints
returns-clause-hints g c = λ other truth tree s fit. c.in-Ok-create_over.ensures.hints other truth tree s.directory.few s.directory.same s.directory.stands s.directory.fit fit

pub returns-in-None-clause-lacks : goal.returns-in-None-clause-lacks
returns-in-None-clause-lacks g c = λ truth tree s.
    let l = list c.args.volume c.args.areas (g.V.View.held c.args.view.now) (g.V.View.hints c.args.view.now) truth tree c.args.directory.handle c.args.directory.inode c.args.name.now s c.args.call.now c.args.sattr.now c.args.now in
    new_first c.args.volume c.args.areas (g.V.View.held c.args.view.now) (g.V.View.hints c.args.view.now) truth tree c.args.directory.handle c.args.directory.inode c.args.name.now s c.args.call.now c.args.sattr.now c.args.now
    ((rw c.in-None.is at c.in-Ok.ensures.list) truth l.names l.entries) c.create_new.result (λ w. c.create_new.ensures.lacks truth tree w)

pub returns-in-Err-create_over-clause-lacks : goal.returns-in-Err-create_over-clause-lacks
returns-in-Err-create_over-clause-lacks g c = λ truth tree s.
    let l = list c.args.volume c.args.areas (g.V.View.held c.args.view.now) (g.V.View.hints c.args.view.now) truth tree c.args.directory.handle c.args.directory.inode c.args.name.now s c.args.call.now c.args.sattr.now c.args.now in
    over_first c.args.volume c.args.areas (g.V.View.held c.args.view.now) (g.V.View.hints c.args.view.now) truth tree c.args.directory.handle c.args.directory.inode c.args.name.now s c.args.call.now c.args.sattr.now c.args.now c.in-Some.handle
    ((rw c.in-Some.is at c.in-Ok.ensures.list) truth l.names l.entries) c.in-Err-create_over.stop
    (c.in-Err-create_over.ensures.lacks truth tree s.directory.few s.directory.same s.directory.stands s.directory.fit)

pub returns-in-Err-clause-lacks : goal.returns-in-Err-clause-lacks
returns-in-Err-clause-lacks g c = λ truth tree s.
    stop_comes (Option ℕ) (λ status. create_at tree c.args.call.now s.directory.at.file c.args.name.now c.args.sattr.now c.args.now 8 (entry_named (names_of s.directory.at.file.body) c.args.name.now) ≡ Err status)
    (PreparesFromDirectory c.args.areas (g.V.View.held c.args.view.now) (g.V.View.hints c.args.view.now) truth c.args.directory.inode.tree c.args.directory.inode.next (names_of s.directory.at.file.body) c.args.name.now c.args.sattr.now.size) c.in-Err.stop c.in-Err.ensures.inner

pub returns-in-None-clause-ready : goal.returns-in-None-clause-ready
returns-in-None-clause-ready g c = λ truth tree s.
    let l = list c.args.volume c.args.areas (g.V.View.held c.args.view.now) (g.V.View.hints c.args.view.now) truth tree c.args.directory.handle c.args.directory.inode c.args.name.now s c.args.call.now c.args.sattr.now c.args.now in
    new_ready c.args.volume c.args.areas (g.V.View.held c.args.view.now) (g.V.View.hints c.args.view.now) truth tree c.args.directory.handle c.args.directory.inode c.args.name.now s c.args.call.now c.args.sattr.now c.args.now
    ((rw c.in-None.is at c.in-Ok.ensures.list) truth l.names l.entries) c.create_new.result (λ w. c.create_new.ensures.finds truth tree w)

pub returns-clause-ready : goal.returns-clause-ready
returns-clause-ready g c = λ truth tree s.
    let l = list c.args.volume c.args.areas (g.V.View.held c.args.view.now) (g.V.View.hints c.args.view.now) truth tree c.args.directory.handle c.args.directory.inode c.args.name.now s c.args.call.now c.args.sattr.now c.args.now in
    over_ready c.args.volume c.args.areas (g.V.View.held c.args.view.now) (g.V.View.hints c.args.view.now) truth tree c.args.directory.handle c.args.directory.inode c.args.name.now s c.args.call.now c.args.sattr.now c.args.now c.in-Some.handle
    ((rw c.in-Some.is at c.in-Ok.ensures.list) truth l.names l.entries) (c.in-Ok-create_over.ensures.ready truth tree s.directory.few s.directory.same s.directory.stands s.directory.fit)

pub returns-in-None-clause-near : goal.returns-in-None-clause-near
returns-in-None-clause-near g c = IfOk-weaker c.create_new.result _ _ (λ made first. inr first) c.create_new.ensures.near

pub returns-clause-near : goal.returns-clause-near
returns-clause-near g c = inl refl

pub returns-in-None-clause-need : goal.returns-in-None-clause-need
returns-in-None-clause-need g c =
    placing_needs c.args.areas (g.V.View.held c.args.view.now) (g.V.View.hints c.args.view.now) c.args.directory.handle c.args.directory.inode c.args.name.now c.args.sattr.now.size c.create_new.result c.create_new.ensures.need

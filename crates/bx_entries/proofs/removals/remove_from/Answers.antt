use Rattle.std.proofs.Common.{List, inl, inr}
use Rattle.bx_changes.specs.bx_files.proofs.Needs.{needs_along}
use Rattle.bx_layout.specs.declared.inode.Inode.{Inode}
use Rattle.bx_records.specs.Drafts.{Changed}
use Rattle.bx_entries.specs.Finding.{OnFile, OnNamed}
use Rattle.bx_entries.specs.Removing.{OnRemoving}
use Rattle.bx_entries.proofs.RemovedFrom.{comes, listed, needs_wider, no_entry, no_file}
use Rattle.bx_entries.proofs.removals.remove_from.Goals as goal

pub returns-in-Err-clause-step : goal.returns-in-Err-clause-step
returns-in-Err-clause-step g c = λ volume truth tree d.
    let l = listed c.args.sort volume c.args.areas (g.V.View.held c.args.view.now) (g.V.View.hints c.args.view.now) truth tree c.args.directory.handle c.args.directory.inode c.args.name.now c.args.now d in
    no_entry c.args.sort volume c.args.areas (g.V.View.held c.args.view.now) (g.V.View.hints c.args.view.now) truth tree c.args.directory.handle c.args.directory.inode c.args.name.now c.args.now d c.in-Err.stop
    (c.in-Err.ensures.list truth l.names l.entries)

pub returns-in-Err-file_for-clause-step : goal.returns-in-Err-file_for-clause-step
returns-in-Err-file_for-clause-step g c = λ volume truth tree d.
    let l = listed c.args.sort volume c.args.areas (g.V.View.held c.args.view.now) (g.V.View.hints c.args.view.now) truth tree c.args.directory.handle c.args.directory.inode c.args.name.now c.args.now d in
    no_file c.args.sort volume c.args.areas (g.V.View.held c.args.view.now) (g.V.View.hints c.args.view.now) truth tree c.args.directory.handle c.args.directory.inode c.args.name.now c.args.now d c.in-Ok.number c.in-Ok.handle
    (c.in-Ok.ensures.list truth l.names l.entries) c.in-Err-file_for.stop
    (c.in-Err-file_for.ensures.step volume truth tree d.at.file c.args.name.now c.args.now d.few d.same d.stands d.fit)

pub returns-in-Ok-file_for-clause-step : goal.returns-in-Ok-file_for-clause-step
returns-in-Ok-file_for-clause-step g c = λ volume truth tree d.
    let l = listed c.args.sort volume c.args.areas (g.V.View.held c.args.view.now) (g.V.View.hints c.args.view.now) truth tree c.args.directory.handle c.args.directory.inode c.args.name.now c.args.now d in
    let m = c.in-Ok-file_for.ensures.step volume truth tree d.at.file c.args.name.now c.args.now d.few d.same d.stands d.fit in
    comes c.args.sort volume c.args.areas (g.V.View.held c.args.view.now) (g.V.View.hints c.args.view.now) truth tree c.args.directory.handle c.args.directory.inode c.args.name.now c.args.now d c.in-Ok.number c.in-Ok.handle
    (c.in-Ok.ensures.list truth l.names l.entries) c.in-Ok-file_for.inode m c.remove_entry.result (λ is. c.remove_entry.ensures.step volume truth tree is)

pub returns-in-Ok-file_for-clause-need : goal.returns-in-Ok-file_for-clause-need
returns-in-Ok-file_for-clause-need g c =
    needs_wider c.args.areas (g.V.View.held c.args.view.now) (OnRemoving (g.V.View.held c.args.view.now) (g.V.View.hints c.args.view.now) c.args.directory.inode.tree c.in-Ok.number c.args.name.now c.in-Ok.handle c.in-Ok-file_for.inode)
    (OnNamed c.args.sort (g.V.View.held c.args.view.now) (g.V.View.hints c.args.view.now) c.args.areas c.args.directory.inode.tree c.args.name.now)
    (λ at mode on. inr (record { number = c.in-Ok.number; handle = c.in-Ok.handle; found = c.in-Ok.ensures.finds; on = inr (record { inode = c.in-Ok-file_for.inode; live = c.in-Ok-file_for.ensures.live; on = on }) })) c.remove_entry.result c.remove_entry.ensures.need

pub returns-in-Err-file_for-clause-need : goal.returns-in-Err-file_for-clause-need
returns-in-Err-file_for-clause-need g c =
    needs_along Inode (List Changed) c.args.areas (g.V.View.held c.args.view.now) (OnFile c.args.sort (g.V.View.held c.args.view.now) (g.V.View.hints c.args.view.now) c.args.areas c.in-Ok.handle)
    (OnNamed c.args.sort (g.V.View.held c.args.view.now) (g.V.View.hints c.args.view.now) c.args.areas c.args.directory.inode.tree c.args.name.now)
    (λ at mode on. inr (record { number = c.in-Ok.number; handle = c.in-Ok.handle; found = c.in-Ok.ensures.finds; on = inl on })) c.in-Err-file_for.stop c.in-Err-file_for.ensures.need

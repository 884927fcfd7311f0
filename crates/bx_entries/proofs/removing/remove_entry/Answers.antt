use Rattle.std.proofs.Common.{ℕ, List, sym, ap, subst, inr}
use Rattle.std.specs.Prelude.{◌==◌, Ok, Err}
use Rattle.bx_changes.specs.bx_files.proofs.Needs.{needs_along}
use Rattle.bx_records.specs.Drafts.{Changed}
use Rattle.bx_entries.specs.Removing.{OnRemoving, OnUnlinking}
use Rattle.bx_entries.specs.Taking.{IsEntryOf, TakesEntry}
use Rattle.bx_entries.proofs.Removed.{entry, file_of, removes, stopped_taking, stopped_unlinking}
use Rattle.bx_entries.proofs.removing.remove_entry.Goals as goal

pub returns-in-Err-clause-step : goal.returns-in-Err-clause-step
returns-in-Err-clause-step g c = λ volume truth tree r.
    stopped_taking volume c.args.areas (g.V.View.held c.args.view.now) (g.V.View.hints c.args.view.now) truth tree c.args.directory.handle c.args.directory.inode c.args.number c.args.name.now c.args.file.handle c.args.file.inode c.args.now r (c.args.file.inode.kind == 2) c.in-Err.stop
    (subst (λ (d : List Changed). TakesEntry c.args.areas truth d tree c.args.directory.handle r.at.file c.args.name.now (c.args.file.inode.kind == 2) c.args.now (Err c.in-Err.stop)) c.new-none.ensures
    (c.in-Err.ensures.step truth tree r.at.file
    (subst (λ (d : List Changed). IsEntryOf c.args.areas (g.V.View.held c.args.view.now) (g.V.View.hints c.args.view.now) truth d tree c.args.directory.handle c.args.directory.inode r.at.file c.args.number c.args.name.now) (sym c.new-none.ensures)
    (entry volume c.args.areas (g.V.View.held c.args.view.now) (g.V.View.hints c.args.view.now) truth tree c.args.directory.handle c.args.directory.inode c.args.number c.args.name.now c.args.file.handle c.args.file.inode c.args.now r))))

pub returns-in-Err-unlink-clause-step : goal.returns-in-Err-unlink-clause-step
returns-in-Err-unlink-clause-step g c = λ volume truth tree r.
    let left = (subst (λ (d : List Changed). TakesEntry c.args.areas truth d tree c.args.directory.handle r.at.file c.args.name.now (c.args.file.inode.kind == 2) c.args.now (Ok c.in-Ok.draft)) c.new-none.ensures
    (c.in-Ok.ensures.step truth tree r.at.file
    (subst (λ (d : List Changed). IsEntryOf c.args.areas (g.V.View.held c.args.view.now) (g.V.View.hints c.args.view.now) truth d tree c.args.directory.handle c.args.directory.inode r.at.file c.args.number c.args.name.now) (sym c.new-none.ensures)
    (entry volume c.args.areas (g.V.View.held c.args.view.now) (g.V.View.hints c.args.view.now) truth tree c.args.directory.handle c.args.directory.inode c.args.number c.args.name.now c.args.file.handle c.args.file.inode c.args.now r)))) in
    stopped_unlinking volume c.args.areas (g.V.View.held c.args.view.now) (g.V.View.hints c.args.view.now) truth tree c.args.directory.handle c.args.directory.inode c.args.number c.args.name.now c.args.file.handle c.args.file.inode c.args.now r (c.args.file.inode.kind == 2) (ap (λ (k : ℕ). k == 2) r.file.fields.kind) c.in-Ok.draft left
    c.unlink.new.draft c.in-Err-unlink.stop
    (c.in-Err-unlink.ensures.step c.args.areas truth _ r.file.file
    (file_of volume c.args.areas (g.V.View.held c.args.view.now) (g.V.View.hints c.args.view.now) truth tree c.args.directory.handle c.args.directory.inode c.args.number c.args.name.now c.args.file.handle c.args.file.inode c.args.now r (c.args.file.inode.kind == 2) (ap (λ (k : ℕ). k == 2) r.file.fields.kind) c.in-Ok.draft left))

pub returns-in-Err-unlink-clause-need : goal.returns-in-Err-unlink-clause-need
returns-in-Err-unlink-clause-need g c =
    needs_along (Unit {0}) (List Changed) c.args.areas (g.V.View.held c.args.view.now) (OnUnlinking c.args.file.handle c.args.file.inode)
    (OnRemoving (g.V.View.held c.args.view.now) (g.V.View.hints c.args.view.now) c.args.directory.inode.tree c.args.number c.args.name.now c.args.file.handle c.args.file.inode) (λ at mode on. inr on) c.in-Err-unlink.stop
    (c.in-Err-unlink.ensures.need c.args.areas c.requires.area)

pub returns-in-Ok-unlink-clause-step : goal.returns-in-Ok-unlink-clause-step
returns-in-Ok-unlink-clause-step g c = λ volume truth tree r.
    let left = (subst (λ (d : List Changed). TakesEntry c.args.areas truth d tree c.args.directory.handle r.at.file c.args.name.now (c.args.file.inode.kind == 2) c.args.now (Ok c.in-Ok.draft)) c.new-none.ensures
    (c.in-Ok.ensures.step truth tree r.at.file
    (subst (λ (d : List Changed). IsEntryOf c.args.areas (g.V.View.held c.args.view.now) (g.V.View.hints c.args.view.now) truth d tree c.args.directory.handle c.args.directory.inode r.at.file c.args.number c.args.name.now) (sym c.new-none.ensures)
    (entry volume c.args.areas (g.V.View.held c.args.view.now) (g.V.View.hints c.args.view.now) truth tree c.args.directory.handle c.args.directory.inode c.args.number c.args.name.now c.args.file.handle c.args.file.inode c.args.now r)))) in
    removes volume c.args.areas (g.V.View.held c.args.view.now) (g.V.View.hints c.args.view.now) truth tree c.args.directory.handle c.args.directory.inode c.args.number c.args.name.now c.args.file.handle c.args.file.inode c.args.now r (c.args.file.inode.kind == 2) (ap (λ (k : ℕ). k == 2) r.file.fields.kind) c.in-Ok.draft left
    c.unlink.new.draft
    (c.in-Ok-unlink.ensures.step c.args.areas truth _ r.file.file
    (file_of volume c.args.areas (g.V.View.held c.args.view.now) (g.V.View.hints c.args.view.now) truth tree c.args.directory.handle c.args.directory.inode c.args.number c.args.name.now c.args.file.handle c.args.file.inode c.args.now r (c.args.file.inode.kind == 2) (ap (λ (k : ℕ). k == 2) r.file.fields.kind) c.in-Ok.draft left))

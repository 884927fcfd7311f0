use Rattle.std.proofs.Common.{false, List, sym, subst}
use Rattle.std.specs.Prelude.{Ok, Err}
use Rattle.bx_entries.specs.Entering.{EntersIn, MayEnter}
use Rattle.bx_records.specs.Drafts.{Changed}
use Rattle.bx_linking.proofs.Linked.{enters, links, stopped}
use Rattle.bx_linking.proofs.places.link_file.Goals as goal

pub returns-in-Err-clause-step : goal.returns-in-Err-clause-step
returns-in-Err-clause-step g c = λ volume truth tree is may.
    stopped volume c.args.areas (g.V.View.held c.args.view.now) (g.V.View.hints c.args.view.now) truth tree c.args.file.handle c.args.file.inode c.args.directory.handle c.args.directory.inode c.args.name.now c.args.now is may c.in-Err.error
    (subst (λ (d : List Changed). EntersIn c.args.areas truth d tree c.args.directory.handle c.args.directory.inode c.args.name.now c.args.file.handle false c.args.now (Err c.in-Err.error)) c.new-none.ensures
    (c.in-Err.ensures.step truth tree is.at.file
    (subst (λ (d : List Changed). MayEnter c.args.areas (g.V.View.held c.args.view.now) (g.V.View.hints c.args.view.now) truth d tree c.args.directory.handle c.args.directory.inode is.at.file c.args.name.now) (sym c.new-none.ensures)
    (enters volume c.args.areas (g.V.View.held c.args.view.now) (g.V.View.hints c.args.view.now) truth tree c.args.file.handle c.args.file.inode c.args.directory.handle c.args.directory.inode c.args.name.now c.args.now is may))))

pub returns-in-Ok-put_inode-clause-step : goal.returns-in-Ok-put_inode-clause-step
returns-in-Ok-put_inode-clause-step g c = λ volume truth tree is may.
    links volume c.args.areas (g.V.View.held c.args.view.now) (g.V.View.hints c.args.view.now) truth tree c.args.file.handle c.args.file.inode c.args.directory.handle c.args.directory.inode c.args.name.now c.args.now is may c.in-Ok.draft c.put_inode.new.draft
    (subst (λ (d : List Changed). EntersIn c.args.areas truth d tree c.args.directory.handle c.args.directory.inode c.args.name.now c.args.file.handle false c.args.now (Ok c.in-Ok.draft)) c.new-none.ensures
    (c.in-Ok.ensures.step truth tree is.at.file
    (subst (λ (d : List Changed). MayEnter c.args.areas (g.V.View.held c.args.view.now) (g.V.View.hints c.args.view.now) truth d tree c.args.directory.handle c.args.directory.inode is.at.file c.args.name.now) (sym c.new-none.ensures)
    (enters volume c.args.areas (g.V.View.held c.args.view.now) (g.V.View.hints c.args.view.now) truth tree c.args.file.handle c.args.file.inode c.args.directory.handle c.args.directory.inode c.args.name.now c.args.now is may))))
    c.in-Ok-put_inode.ensures.puts c.in-Ok-put_inode.ensures.tree

use Rattle.std.proofs.Common.{List, subst}
use Rattle.std.specs.Prelude.{Err}
use Rattle.bx_inodes.specs.Inodes.{FileAt, IsInodeOf}
use Rattle.bx_changes.specs.bx_reads.proofs.Told.{over_none}
use Rattle.bx_records.specs.Drafts.{Changed}
use Rattle.bx_views.specs.Truths.{with_draft}
use Rattle.bx_renaming.proofs.Finds.{found, no_entry, no_moved}
use Rattle.bx_renaming.proofs.finding.moved_for.Goals as goal

pub returns-in-Err-clause-step : goal.returns-in-Err-clause-step
returns-in-Err-clause-step g c = λ volume truth tree d. no_entry volume c.args.areas (g.V.View.held c.args.view.now) (g.V.View.hints c.args.view.now) truth tree c.args.directory.now.handle c.args.directory.now.inode c.args.name.now d c.in-Err.stop c.in-Err.ensures.list

pub returns-in-Err-inode_at-clause-step : goal.returns-in-Err-inode_at-clause-step
returns-in-Err-inode_at-clause-step g c = λ volume truth tree d.
    no_moved volume c.args.areas (g.V.View.held c.args.view.now) (g.V.View.hints c.args.view.now) truth tree c.args.directory.now.handle c.args.directory.now.inode c.args.name.now d c.in-Ok.number c.in-Ok.handle c.in-Ok.ensures.list c.in-Err-inode_at.stop
    (subst (λ (d : List Changed). FileAt c.args.areas (with_draft truth d) tree c.in-Ok.handle (Err c.in-Err-inode_at.stop)) c.new-none.ensures
    (c.in-Err-inode_at.ensures.tree truth tree d.same (over_none c.args.areas truth tree c.new-none.result c.new-none.ensures d.stands.is)))

pub returns-clause-step : goal.returns-clause-step
returns-clause-step g c = λ volume truth tree d. record {
  found = found volume c.args.areas (g.V.View.held c.args.view.now) (g.V.View.hints c.args.view.now) truth tree c.args.directory.now.handle c.args.directory.now.inode c.args.name.now d c.in-Ok.number c.in-Ok.handle c.in-Ok.ensures.list;
  at = (subst (λ (d : List Changed). IsInodeOf c.args.areas (with_draft truth d) tree c.in-Ok.handle c.in-Ok-inode_at.inode) c.new-none.ensures
      (c.in-Ok-inode_at.ensures.tree truth tree d.same (over_none c.args.areas truth tree c.new-none.result c.new-none.ensures d.stands.is)));
}

use Rattle.std.proofs.Common.{List, subst, Err}
use Rattle.bx_inodes.specs.Inodes.{FileAt, IsInodeOf}
use Rattle.bx_changes.specs.bx_reads.proofs.Told.{over_none, size_fits}
use Rattle.bx_records.specs.Drafts.{Changed}
use Rattle.bx_views.specs.Truths.{with_draft}
use Rattle.bx_creating.proofs.NamesThere.{gives, irregular, not_there}
use Rattle.bx_creating.proofs.existing.told_over.Goals as goal

pub returns-in-Err-clause-step : goal.returns-in-Err-clause-step
returns-in-Err-clause-step g c = λ truth tree call sattr now same s none.
    not_there tree call sattr now c.args.areas truth c.args.handle c.in-Err.stop
    (subst (λ (d : List Changed). FileAt c.args.areas (with_draft truth d) tree c.args.handle (Err c.in-Err.stop)) c.new-none.ensures
    (c.in-Err.ensures.tree truth tree same (over_none c.args.areas truth tree c.new-none.result c.new-none.ensures s.is)))

pub returns-then-inode-ne-REGULAR-clause-step : goal.returns-then-inode-ne-REGULAR-clause-step
returns-then-inode-ne-REGULAR-clause-step g c = λ truth tree call sattr now same s none.
    let f = subst (λ (d : List Changed). IsInodeOf c.args.areas (with_draft truth d) tree c.args.handle c.in-Ok.inode) c.new-none.ensures
    (c.in-Ok.ensures.tree truth tree same (over_none c.args.areas truth tree c.new-none.result c.new-none.ensures s.is)) in
    irregular tree call sattr now c.args.areas truth c.args.handle c.in-Ok.inode f c.if-inode-ne-REGULAR.true

pub returns-clause-step : goal.returns-clause-step
returns-clause-step g c = λ truth tree call sattr now same s none.
    let f = subst (λ (d : List Changed). IsInodeOf c.args.areas (with_draft truth d) tree c.args.handle c.in-Ok.inode) c.new-none.ensures
    (c.in-Ok.ensures.tree truth tree same (over_none c.args.areas truth tree c.new-none.result c.new-none.ensures s.is)) in
    gives tree call sattr now c.args.areas truth c.args.handle c.in-Ok.inode f none c.if-inode-ne-REGULAR.false c.in-Ok-told_of.reply
    (c.in-Ok-told_of.ensures tree f.file.body s.volume_is f.size (size_fits tree c.args.handle f.file s.file_tree f.there))

use Rattle.std.proofs.Common.{List, sym, subst, ◌∙◌, Err}
use Rattle.bx_inodes.specs.Inodes.{FileAt, IsInodeOf}
use Rattle.bx_directory_reads.proofs.Told.{over_none}
use Rattle.bx_records.specs.Drafts.{Changed}
use Rattle.bx_views.specs.Truths.{with_draft}
use Rattle.bx_entries.proofs.Found.{allowed, no_directory, refused}
use Rattle.bx_entries.proofs.finding.directory_for.Goals as goal

pub returns-in-Err-clause-step : goal.returns-in-Err-clause-step
returns-in-Err-clause-step g c = λ truth tree same is.
    no_directory c.args.want c.args.areas truth tree c.args.call.now c.args.name.now c.args.handle c.in-Err.stop
    (subst (λ (d : List Changed). FileAt c.args.areas (with_draft truth d) tree c.args.handle (Err c.in-Err.stop)) c.new-none.ensures
    (c.in-Err.ensures.tree truth tree same (over_none c.args.areas truth tree c.new-none.result c.new-none.ensures is)))

pub returns-in-Ok-Some-clause-step : goal.returns-in-Ok-Some-clause-step
returns-in-Ok-Some-clause-step g c = λ truth tree same is.
    let f = subst (λ (d : List Changed). IsInodeOf c.args.areas (with_draft truth d) tree c.args.handle c.in-Ok.inode) c.new-none.ensures
    (c.in-Ok.ensures.tree truth tree same (over_none c.args.areas truth tree c.new-none.result c.new-none.ensures is)) in
    refused c.args.want c.args.areas truth tree c.args.call.now c.args.name.now c.args.handle c.in-Ok.inode f c.in-Ok-Some.status c.in-Ok-Some.field-0 c.in-Ok-Some.field-0-is c.in-Ok-Some.ensures

pub returns-clause-step : goal.returns-clause-step
returns-clause-step g c = λ truth tree same is.
    let f = subst (λ (d : List Changed). IsInodeOf c.args.areas (with_draft truth d) tree c.args.handle c.in-Ok.inode) c.new-none.ensures
    (c.in-Ok.ensures.tree truth tree same (over_none c.args.areas truth tree c.new-none.result c.new-none.ensures is)) in
    record { at = f; may = allowed c.args.want c.args.areas truth tree c.args.call.now c.args.name.now c.args.handle c.in-Ok.inode f (sym c.in-Ok-None.field-0-is ∙ c.in-Ok-None.ensures) }

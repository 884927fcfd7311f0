use Rattle.std.proofs.Common.{List, sym, subst, ◌∙◌, Err}
use Rattle.bx_inodes.specs.Inodes.{FileAt, IsInodeOf}
use Rattle.bx_directory_reads.proofs.Told.{over_none}
use Rattle.bx_records.specs.Drafts.{Changed}
use Rattle.bx_views.specs.Truths.{with_draft}
use Rattle.bx_entries.proofs.Found.{is_refused, no_file, not_told}
use Rattle.bx_entries.proofs.finding.file_for.Goals as goal

pub returns-in-Err-clause-step : goal.returns-in-Err-clause-step
returns-in-Err-clause-step g c = λ volume truth tree directory name now few same s fit.
    no_file c.args.sort c.args.areas truth tree directory name now c.args.handle c.in-Err.stop
    (subst (λ (d : List Changed). FileAt c.args.areas (with_draft truth d) tree c.args.handle (Err c.in-Err.stop)) c.new-none.ensures
    (c.in-Err.ensures.tree truth tree same (over_none c.args.areas truth tree c.new-none.result c.new-none.ensures s.is)))

pub returns-in-Err-removal_error-clause-step : goal.returns-in-Err-removal_error-clause-step
returns-in-Err-removal_error-clause-step g c = λ volume truth tree directory name now few same s fit.
    let f = subst (λ (d : List Changed). IsInodeOf c.args.areas (with_draft truth d) tree c.args.handle c.in-Ok.inode) c.new-none.ensures
    (c.in-Ok.ensures.tree truth tree same (over_none c.args.areas truth tree c.new-none.result c.new-none.ensures s.is)) in
    not_told c.args.sort c.args.areas truth tree directory name now c.args.handle c.in-Ok.inode f c.in-Err-removal_error.stop
    (c.in-Err-removal_error.ensures.step volume truth tree c.args.handle (record { few = few; same = same; stands = s; fit = fit; at = f }))

pub returns-in-Ok-Some-clause-step : goal.returns-in-Ok-Some-clause-step
returns-in-Ok-Some-clause-step g c = λ volume truth tree directory name now few same s fit.
    let f = subst (λ (d : List Changed). IsInodeOf c.args.areas (with_draft truth d) tree c.args.handle c.in-Ok.inode) c.new-none.ensures
    (c.in-Ok.ensures.tree truth tree same (over_none c.args.areas truth tree c.new-none.result c.new-none.ensures s.is)) in
    is_refused c.args.sort c.args.areas truth tree directory name now c.args.handle c.in-Ok.inode f c.in-Ok-Some.status c.in-Ok-Some.field-0 c.in-Ok-Some.field-0-is
    (c.in-Ok-Some.ensures.step volume truth tree c.args.handle (record { few = few; same = same; stands = s; fit = fit; at = f }))

pub returns-clause-step : goal.returns-clause-step
returns-clause-step g c = λ volume truth tree directory name now few same s fit.
    let f = subst (λ (d : List Changed). IsInodeOf c.args.areas (with_draft truth d) tree c.args.handle c.in-Ok.inode) c.new-none.ensures
    (c.in-Ok.ensures.tree truth tree same (over_none c.args.areas truth tree c.new-none.result c.new-none.ensures s.is)) in
    record { at = f; may = sym (c.in-Ok-None.ensures.step volume truth tree c.args.handle (record { few = few; same = same; stands = s; fit = fit; at = f })) ∙ c.in-Ok-None.field-0-is }

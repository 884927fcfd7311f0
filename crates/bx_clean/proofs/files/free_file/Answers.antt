use Rattle.std.proofs.Common.{List, false, Err, Ok, refl, subst}
use Rattle.bx_chunks.specs.Marking.{MarksAt}
use Rattle.bx_records.specs.Drafts.{Changed}
use Rattle.bx_clean.specs.Trees.{frees_file, unmarked}
use Rattle.bx_clean.proofs.files.free_file.Goals as goal

pub returns-in-Err : goal.returns-in-Err
returns-in-Err g c =
    unmarked c.in-Err.error
    (subst (λ (d : List Changed). MarksAt (g.V.View.held c.args.view.now) d d c.args.handle false (Err c.in-Err.error)) c.new-draft.ensures
    (subst (λ (d : List Changed). MarksAt (g.V.View.held c.args.view.now) c.new-draft.result d c.args.handle false (Err c.in-Err.error)) c.in-Err.ensures.err c.in-Err.ensures.at)) refl

pub returns-in-Ok : goal.returns-in-Ok
returns-in-Ok g c =
    frees_file c.mark_dead.new.draft
    (subst (λ (d : List Changed). MarksAt (g.V.View.held c.args.view.now) d c.mark_dead.new.draft c.args.handle false (Ok tt)) c.new-draft.ensures c.in-Ok.ensures.at) c.freed.ensures

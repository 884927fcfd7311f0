use Rattle.std.proofs.Common.{List, Err, Ok, subst, sym}
use Rattle.bx_entries.specs.bx_making.specs.Made.{MakesFile, MakesIn}
use Rattle.bx_entries.specs.bx_ready.proofs.Split.{none_held}
use Rattle.bx_records.specs.Drafts.{Changed}
use Rattle.bx_truth.specs.Stands.{StandsFor}
use Rattle.bx_views.specs.Attempts.{IsHeldDraft}
use Rattle.bx_views.specs.Truths.{with_draft}
use Rattle.bx_creating.specs.Placing.{MadeAt}
use Rattle.bx_creating.proofs.Made.{made_crowds, made_full, made_long, made_needs, made_none, needs, none_stops, stops}
use Rattle.bx_creating.proofs.placing.make_new.Goals as goal

pub returns-in-Err-clause-step : goal.returns-in-Err-clause-step
returns-in-Err-clause-step g c = λ truth tree body few same is new.
    let at = subst (λ (d : List Changed). MadeAt (g.V.View.held c.args.view.now) d c.make_kind.new.draft c.args.inode c.args.near c.args.areas (Err c.in-Err.error)) c.new-draft.ensures c.in-Err.ensures.at in
    stops c.args.areas truth tree c.args.inode body c.make_kind.new.draft c.in-Err.error c.of_chunks.result
    (λ crowded. made_crowds (g.V.View.held c.args.view.now) c.args.near c.args.areas c.args.inode c.make_kind.new.draft (rw crowded at at))
    (λ spare full. made_full (g.V.View.held c.args.view.now) c.args.near c.args.areas truth few same is.chunked c.args.inode c.make_kind.new.draft spare (rw full at at))
    (subst (λ (d : List Changed). MakesIn c.args.areas truth d c.make_kind.new.draft tree c.args.inode body (Err c.in-Err.error)) c.new-draft.ensures
    (c.in-Err.ensures.tree truth tree body few same (subst (λ (d : List Changed). StandsFor c.args.areas (with_draft truth d) tree) (sym c.new-draft.ensures) is) new))
    c.of_chunks.ensures

pub returns-in-Err-clause-need : goal.returns-in-Err-clause-need
returns-in-Err-clause-need g c =
    let at = subst (λ (d : List Changed). MadeAt (g.V.View.held c.args.view.now) d c.make_kind.new.draft c.args.inode c.args.near c.args.areas (Err c.in-Err.error)) c.new-draft.ensures c.in-Err.ensures.at in
    needs c.args.areas (g.V.View.held c.args.view.now) c.args.near c.in-Err.error c.of_chunks.result
    (λ block mode need. made_needs (g.V.View.held c.args.view.now) c.args.near c.args.areas c.args.inode c.make_kind.new.draft block mode (rw need at at)) c.in-Err.ensures.fair c.of_chunks.ensures

pub returns-in-Ok-clause-step : goal.returns-in-Ok-clause-step
returns-in-Ok-clause-step g c = λ truth tree body few same is new.
    subst (λ (d : List Changed). MakesFile c.args.areas truth d c.make_kind.new.draft tree c.args.inode body c.in-Ok.handle) c.new-draft.ensures
    (c.in-Ok.ensures.tree truth tree body few same (subst (λ (d : List Changed). StandsFor c.args.areas (with_draft truth d) tree) (sym c.new-draft.ensures) is) new)

pub returns-in-Ok-clause-held : goal.returns-in-Ok-clause-held
returns-in-Ok-clause-held g c =
    c.in-Ok.ensures.held (subst (λ (d : List Changed). IsHeldDraft (g.V.View.held c.args.view.now) d) (sym c.new-draft.ensures) (none_held (g.V.View.held c.args.view.now)))

pub returns-in-Ok-clause-few : goal.returns-in-Ok-clause-few
returns-in-Ok-clause-few g c =
    made_long (g.V.View.held c.args.view.now) c.args.near c.args.areas c.args.inode c.make_kind.new.draft c.in-Ok.handle
    (subst (λ (d : List Changed). MadeAt (g.V.View.held c.args.view.now) d c.make_kind.new.draft c.args.inode c.args.near c.args.areas (Ok c.in-Ok.handle)) c.new-draft.ensures c.in-Ok.ensures.at)

pub returns-in-Err-clause-full : goal.returns-in-Err-clause-full
returns-in-Err-clause-full g c =
    let at = subst (λ (d : List Changed). MadeAt (g.V.View.held c.args.view.now) d c.make_kind.new.draft c.args.inode c.args.near c.args.areas (Err c.in-Err.error)) c.new-draft.ensures c.in-Err.ensures.at in
    none_stops (g.V.View.held c.args.view.now) c.args.near c.args.areas c.in-Err.error c.of_chunks.result
    (λ spare full. made_none (g.V.View.held c.args.view.now) c.args.near c.args.areas c.args.inode c.make_kind.new.draft spare (rw full at at)) c.of_chunks.ensures

pub returns-in-Ok-clause-made : goal.returns-in-Ok-clause-made
returns-in-Ok-clause-made g c =
    (c.args.inode, subst (λ (d : List Changed). MadeAt (g.V.View.held c.args.view.now) d c.make_kind.new.draft c.args.inode c.args.near c.args.areas (Ok c.in-Ok.handle)) c.new-draft.ensures c.in-Ok.ensures.at)

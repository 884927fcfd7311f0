use Rattle.std.proofs.Common.{ℕ, List, [], Option, Err, subst}
use Rattle.bx_leaves.specs.Changes.{NeedsUnheld}
use Rattle.bx_entries.specs.bx_ready.specs.Ready.{OnReadyPath, ReadiesIn}
use Rattle.bx_records.specs.Drafts.{Changed}
use Rattle.bx_entries.proofs.Lacks.{not_first}
use Rattle.bx_entries.proofs.Stopped.{full_stops, needs_stop}
use Rattle.bx_chunks.specs.Taking.{NoSlots, TakesSlots}
use Rattle.bx_entries.specs.bx_ready.specs.Lacking.{MakesRoom}
use Rattle.bx_truth.specs.Keys.{content_key}
use Rattle.bx_writes.proofs.Missing.{finding, leaves, making, stopped, under}
use Rattle.bx_writes.proofs.preparing.missing.Goals as goal

pub returns-in-Err-clause-step : goal.returns-in-Err-clause-step
returns-in-Err-clause-step g c = λ volume truth tree handle inode r root_is.
    stopped volume c.args.near.1 (g.V.View.held c.args.view.now) (g.V.View.hints c.args.view.now) truth tree handle inode r c.args.root root_is c.args.place.0 c.args.place.1 c.args.part.now c.in-Err.error c.of_tree.result
    (λ pages u. subst (λ (k : List ℕ). ReadiesIn c.args.near.1 (g.V.View.held c.args.view.now) (g.V.View.hints c.args.view.now) truth c.args.root pages k (Err c.in-Err.error)) c.content_key.ensures (c.in-Err.ensures.map truth pages u))
    c.args.near.0 (subst (λ (k : List ℕ). NeedsUnheld {X = Option (List Changed)} (g.V.View.held c.args.view.now) (OnReadyPath c.args.near.0 c.args.near.1 (g.V.View.held c.args.view.now) (g.V.View.hints c.args.view.now) c.args.root k) (Err c.in-Err.error)) c.content_key.ensures
    c.in-Err.ensures.fair) c.of_tree.ensures

pub returns-in-Ok-Some-clause-step : goal.returns-in-Ok-Some-clause-step
returns-in-Ok-Some-clause-step g c = λ volume truth tree handle inode r root_is.
    rw c.in-Ok-Some.field-0-is
    (leaves volume c.args.near.1 (g.V.View.held c.args.view.now) (g.V.View.hints c.args.view.now) truth tree handle inode r c.args.root root_is c.in-Ok-Some.draft (rw c.in-Ok-Some.field-0-is at c.in-Ok-Some.ensures.files))

pub returns-in-Ok-clause-step : goal.returns-in-Ok-clause-step
returns-in-Ok-clause-step g c = λ volume truth tree handle inode r root_is. (
  λ pages is. (rw (c.in-Ok-None.field-0-is, c.content_key.ensures) at c.in-Ok-None.ensures.map) truth pages
      (under volume c.args.near.1 (g.V.View.held c.args.view.now) (g.V.View.hints c.args.view.now) truth tree handle inode r c.args.root root_is pages is),
  c.in-Ok.ensures,
)

pub returns-in-Err-clause-lacks : goal.returns-in-Err-clause-lacks
returns-in-Err-clause-lacks g c = λ volume truth tree handle inode r root_is.
    not_first c.args.near.1 (MakesRoom c.args.near.1 (g.V.View.held c.args.view.now) (g.V.View.hints c.args.view.now) truth c.args.root (content_key c.args.place.0)) c.in-Err.error c.of_tree.result c.of_tree.ensures

pub returns-in-Ok-Some-clause-lacks : goal.returns-in-Ok-Some-clause-lacks
returns-in-Ok-Some-clause-lacks g c = λ volume truth tree handle inode r root_is.
    rw c.in-Ok-Some.field-0-is
    (making volume c.args.near.1 (g.V.View.held c.args.view.now) (g.V.View.hints c.args.view.now) truth tree handle inode r c.args.root root_is c.args.place.0 c.content_key.result c.in-Ok-Some.field-0 c.in-Ok-Some.draft
    c.content_key.ensures c.in-Ok-Some.field-0-is c.in-Ok-Some.ensures.lacks)

pub returns-in-Ok-clause-finds : goal.returns-in-Ok-clause-finds
returns-in-Ok-clause-finds g c = λ volume truth tree handle inode r root_is.
    finding volume c.args.near.1 (g.V.View.held c.args.view.now) (g.V.View.hints c.args.view.now) truth tree handle inode r c.args.root root_is c.args.place.0 c.content_key.result c.in-Ok-None.field-0
    c.content_key.ensures c.in-Ok-None.field-0-is c.in-Ok-None.ensures.finds

pub returns-in-Err-clause-need : goal.returns-in-Err-clause-need
returns-in-Err-clause-need g c =
    needs_stop (Option (List Changed)) c.args.near.1 (g.V.View.held c.args.view.now) (OnReadyPath c.args.near.0 c.args.near.1 (g.V.View.held c.args.view.now) (g.V.View.hints c.args.view.now) c.args.root (content_key c.args.place.0)) c.in-Err.error c.of_tree.result
    (subst (λ (k : List ℕ). NeedsUnheld {X = Option (List Changed)} (g.V.View.held c.args.view.now) (OnReadyPath c.args.near.0 c.args.near.1 (g.V.View.held c.args.view.now) (g.V.View.hints c.args.view.now) c.args.root k) (Err c.in-Err.error)) c.content_key.ensures c.in-Err.ensures.fair) c.of_tree.ensures

pub returns-in-Err-clause-full : goal.returns-in-Err-clause-full
returns-in-Err-clause-full g c = full_stops (Option (List Changed)) c.args.near.1 (NoSlots (g.V.View.held c.args.view.now) c.args.near.0 c.args.near.1 []) c.in-Err.error c.of_tree.result c.in-Err.ensures.full c.of_tree.ensures

pub returns-in-Err-clause-taken : goal.returns-in-Err-clause-taken
returns-in-Err-clause-taken g c = not_first c.args.near.1 (TakesSlots (g.V.View.held c.args.view.now) c.args.near.0 c.args.near.1 []) c.in-Err.error c.of_tree.result c.of_tree.ensures

pub returns-in-Ok-Some-clause-taken : goal.returns-in-Ok-Some-clause-taken
returns-in-Ok-Some-clause-taken g c = rw c.in-Ok-Some.field-0-is (rw c.in-Ok-Some.field-0-is at c.in-Ok-Some.ensures.taken)

use Rattle.std.proofs.Common.{inr}
use Rattle.bx_entries.specs.bx_dirs.specs.Changes.{OnAddPath, entry_of}
use Rattle.bx_leaves.proofs.Fair.{seen_held}
use Rattle.bx_model.specs.Edits.{changed}
use Rattle.bx_tree_files.specs.Changes.{entered}
use Rattle.bx_truth.specs.Chunks.{block_at}
use Rattle.std.proofs.lemmas.Result.{IfOk-weaker}
use Rattle.bx_moving.specs.Edits.{OnComing, puts_in}
use Rattle.bx_moving.proofs.Edited.{comes, enter_in, needs_if, no_stop_by}
use Rattle.bx_moving.proofs.entries.come.Goals as goal

pub returns-in-Err-clause-step : goal.returns-in-Err-clause-step
returns-in-Err-clause-step g c = λ truth tree file parent next names r there body absent numbered fewer rooms.
    no_stop_by c.args.areas truth c.args.draft tree (changed tree c.args.place.now.directory (entered c.args.place.now.time c.args.place.now.name.now c.args.made c.args.place.now.counts)) c.args.place.now.directory file there c.in-Err.stop (c.in-Err.ensures.tree truth tree r.same r.is)

pub returns-in-Ok-clause-step : goal.returns-in-Ok-clause-step
returns-in-Ok-clause-step g c = λ truth tree file parent next names r there body absent numbered fewer rooms.
    comes c.args.areas (g.V.View.held c.args.view.now) (g.V.View.hints c.args.view.now) truth c.args.draft tree c.args.place.now.directory c.in-Ok.inode r (c.in-Ok.ensures.tree truth tree r.same r.is) file there c.args.place.now.name.now c.args.made c.args.place.now.counts c.args.place.now.time c.enter.result
    (c.enter.ensures.step truth tree (c.in-Ok.ensures.tree truth tree r.same r.is).file (enter_in c.args.areas (g.V.View.held c.args.view.now) (g.V.View.hints c.args.view.now) truth c.args.draft tree c.args.place.now.directory c.in-Ok.inode r (c.in-Ok.ensures.tree truth tree r.same r.is) file there parent next names c.args.place.now.name.now body absent numbered fewer rooms))

pub returns-in-Ok-clause-need : goal.returns-in-Ok-clause-need
returns-in-Ok-clause-need g c =
    needs_if c.args.areas (g.V.View.held c.args.view.now) (OnAddPath (g.V.View.held c.args.view.now) (g.V.View.hints c.args.view.now) c.args.draft c.in-Ok.inode.tree (entry_of c.in-Ok.inode.next c.args.place.now.name.now c.args.made))
    (OnComing (g.V.View.held c.args.view.now) (g.V.View.hints c.args.view.now) c.args.areas c.args.draft c.args.place.now.directory c.args.place.now.name.now c.args.made)
    (λ at mode on. inr (record { inode = c.in-Ok.inode; live = c.in-Ok.ensures.at; on = on })) c.enter.result c.enter.ensures.need

pub returns-in-Ok-clause-held : goal.returns-in-Ok-clause-held
returns-in-Ok-clause-held g c = λ held.
    c.enter.ensures.held held (seen_held (g.V.View.held c.args.view.now) c.args.draft (block_at c.args.place.now.directory) c.in-Ok.ensures.at.block held c.in-Ok.ensures.at.there)

pub returns-in-Ok-clause-edits : goal.returns-in-Ok-clause-edits
returns-in-Ok-clause-edits g c = λ edited.
    IfOk-weaker c.enter.result _ _ (λ new ends. puts_in c.args.draft new c.args.place.now.directory c.in-Ok.inode c.args.place.now.name.now c.args.made c.args.place.now.counts c.args.place.now.time edited c.in-Ok.ensures.at ends) c.enter.ensures.ends

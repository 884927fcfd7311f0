use Rattle.std.proofs.Common.{inr}
use Rattle.bx_entries.specs.bx_dirs.specs.Changes.{OnTakePath}
use Rattle.bx_entries.proofs.RemovedFrom.{needs_wider}
use Rattle.bx_leaves.proofs.Fair.{seen_held}
use Rattle.bx_model.specs.Edits.{changed}
use Rattle.bx_tree_files.specs.Changes.{taken_out}
use Rattle.bx_truth.specs.Chunks.{block_at}
use Rattle.std.proofs.lemmas.Result.{IfOk-weaker}
use Rattle.bx_moving.specs.Edits.{OnLeaving, takes_out}
use Rattle.bx_moving.proofs.Edited.{entry_in, leaves, no_stop, rooms_if}
use Rattle.bx_moving.proofs.edits.leave.Goals as goal

pub returns-in-Err-clause-step : goal.returns-in-Err-clause-step
returns-in-Err-clause-step g c = λ truth tree file parent next names entry r there body two found number.
    no_stop c.args.areas truth c.args.draft tree (changed tree c.args.place.now.directory (taken_out c.args.place.now.time c.args.place.now.name.now c.args.place.now.counts)) c.args.place.now.directory file there c.in-Err.stop (c.in-Err.ensures.tree truth tree r.same r.is)

pub returns-in-Ok-clause-step : goal.returns-in-Ok-clause-step
returns-in-Ok-clause-step g c = λ truth tree file parent next names entry r there body two found number.
    leaves c.args.areas (g.V.View.held c.args.view.now) (g.V.View.hints c.args.view.now) truth c.args.draft tree c.args.place.now.directory c.in-Ok.inode r (c.in-Ok.ensures.tree truth tree r.same r.is) file there c.args.place.now.name.now c.args.place.now.counts c.args.place.now.time c.take_entry.result
    (c.take_entry.ensures.step truth tree (c.in-Ok.ensures.tree truth tree r.same r.is).file (entry_in c.args.areas (g.V.View.held c.args.view.now) (g.V.View.hints c.args.view.now) truth c.args.draft tree c.args.place.now.directory c.in-Ok.inode r (c.in-Ok.ensures.tree truth tree r.same r.is) file there parent next names entry c.args.number c.args.place.now.name.now body two found number))

pub returns-in-Ok-clause-need : goal.returns-in-Ok-clause-need
returns-in-Ok-clause-need g c =
    needs_wider c.args.areas (g.V.View.held c.args.view.now) (OnTakePath (g.V.View.held c.args.view.now) (g.V.View.hints c.args.view.now) c.args.draft c.in-Ok.inode.tree c.args.number c.args.place.now.name.now)
    (OnLeaving (g.V.View.held c.args.view.now) (g.V.View.hints c.args.view.now) c.args.areas c.args.draft c.args.place.now.directory c.args.number c.args.place.now.name.now)
    (λ at mode on. inr (record { inode = c.in-Ok.inode; live = c.in-Ok.ensures.at; on = on })) c.take_entry.result c.take_entry.ensures.need

pub returns-in-Ok-clause-held : goal.returns-in-Ok-clause-held
returns-in-Ok-clause-held g c = λ held.
    c.take_entry.ensures.held held (seen_held (g.V.View.held c.args.view.now) c.args.draft (block_at c.args.place.now.directory) c.in-Ok.ensures.at.block held c.in-Ok.ensures.at.there)

pub returns-in-Ok-clause-rooms : goal.returns-in-Ok-clause-rooms
returns-in-Ok-clause-rooms g c = λ truth tree file parent next names entry other r there body two found number rooms.
    let f = c.in-Ok.ensures.tree truth tree r.same r.is in
    rooms_if c.args.areas (g.V.View.held c.args.view.now) (g.V.View.hints c.args.view.now) truth c.args.draft tree c.args.place.now.directory c.in-Ok.inode f.file c.args.number c.args.place.now.name.now c.args.place.now.counts c.args.place.now.time
    (entry_in c.args.areas (g.V.View.held c.args.view.now) (g.V.View.hints c.args.view.now) truth c.args.draft tree c.args.place.now.directory c.in-Ok.inode r (c.in-Ok.ensures.tree truth tree r.same r.is) file there parent next names entry c.args.number c.args.place.now.name.now body two found number) f.holds other rooms c.take_entry.result c.take_entry.ensures.ends

pub returns-in-Ok-clause-edits : goal.returns-in-Ok-clause-edits
returns-in-Ok-clause-edits g c = λ edited.
    IfOk-weaker c.take_entry.result _ _ (λ new ends. takes_out c.args.draft new c.args.place.now.directory c.in-Ok.inode c.args.number c.args.place.now.name.now c.args.place.now.counts c.args.place.now.time edited c.in-Ok.ensures.at ends) c.take_entry.ensures.ends

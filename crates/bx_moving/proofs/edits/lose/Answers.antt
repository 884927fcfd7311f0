use Rattle.std.proofs.Common.{List, inr}
use Rattle.bx_entries.specs.Unlinking.{without_name_of}
use Rattle.bx_changes.specs.bx_files.proofs.Needs.{needs_along}
use Rattle.bx_leaves.proofs.Fair.{seen_held}
use Rattle.bx_records.specs.Drafts.{Changed}
use Rattle.bx_truth.specs.Chunks.{block_at}
use Rattle.bx_entries.specs.Removing.{OnUnlinking}
use Rattle.bx_moving.specs.Edits.{OnLosing}
use Rattle.bx_moving.proofs.Edited.{file_in, loses, no_stop, not_lost}
use Rattle.bx_moving.proofs.edits.lose.Goals as goal

pub returns-in-Err-clause-step : goal.returns-in-Err-clause-step
returns-in-Err-clause-step g c = λ truth tree file r there empty other.
    no_stop c.args.areas truth c.args.draft tree (without_name_of c.args.now tree c.args.handle file) c.args.handle file there c.in-Err.stop (c.in-Err.ensures.tree truth tree r.same r.is)

pub returns-in-Err-unlink-clause-step : goal.returns-in-Err-unlink-clause-step
returns-in-Err-unlink-clause-step g c = λ truth tree file r there empty other.
    not_lost c.args.areas (g.V.View.held c.args.view.now) (g.V.View.hints c.args.view.now) truth c.args.draft tree c.args.handle c.in-Ok.inode r (c.in-Ok.ensures.tree truth tree r.same r.is) file there c.args.now c.unlink.new.draft c.in-Err-unlink.stop
    (c.in-Err-unlink.ensures.step c.args.areas truth tree (c.in-Ok.ensures.tree truth tree r.same r.is).file (file_in c.args.areas (g.V.View.held c.args.view.now) (g.V.View.hints c.args.view.now) truth c.args.draft tree c.args.handle c.in-Ok.inode r (c.in-Ok.ensures.tree truth tree r.same r.is) file there empty other))

pub returns-in-Err-unlink-clause-need : goal.returns-in-Err-unlink-clause-need
returns-in-Err-unlink-clause-need g c =
    needs_along (Unit {0}) (List Changed) c.args.areas (g.V.View.held c.args.view.now) (OnUnlinking c.args.handle c.in-Ok.inode)
    (OnLosing (g.V.View.held c.args.view.now) (g.V.View.hints c.args.view.now) c.args.areas c.args.draft c.args.handle) (λ at mode on. inr (record { inode = c.in-Ok.inode; live = c.in-Ok.ensures.at; on = on })) c.in-Err-unlink.stop
    (c.in-Err-unlink.ensures.need c.args.areas c.requires.area)

pub returns-in-Ok-unlink-clause-step : goal.returns-in-Ok-unlink-clause-step
returns-in-Ok-unlink-clause-step g c = λ truth tree file r there empty other.
    loses c.args.areas (g.V.View.held c.args.view.now) (g.V.View.hints c.args.view.now) truth c.args.draft tree c.args.handle c.in-Ok.inode r (c.in-Ok.ensures.tree truth tree r.same r.is) file there c.args.now c.unlink.new.draft
    (c.in-Ok-unlink.ensures.step c.args.areas truth tree (c.in-Ok.ensures.tree truth tree r.same r.is).file (file_in c.args.areas (g.V.View.held c.args.view.now) (g.V.View.hints c.args.view.now) truth c.args.draft tree c.args.handle c.in-Ok.inode r (c.in-Ok.ensures.tree truth tree r.same r.is) file there empty other))

pub returns-in-Ok-unlink-clause-held : goal.returns-in-Ok-unlink-clause-held
returns-in-Ok-unlink-clause-held g c = λ held.
    c.in-Ok-unlink.ensures.held held (seen_held (g.V.View.held c.args.view.now) c.args.draft (block_at c.args.handle) c.in-Ok.ensures.at.block held c.in-Ok.ensures.at.there)

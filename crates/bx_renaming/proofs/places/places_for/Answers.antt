use Rattle.std.proofs.Common.{List, subst}
use Rattle.std.specs.Prelude.{Err}
use Rattle.bx_inodes.specs.Inodes.{FileAt, IsInodeOf}
use Rattle.bx_changes.specs.bx_reads.proofs.Told.{over_none}
use Rattle.bx_records.specs.Drafts.{Changed}
use Rattle.bx_views.specs.Truths.{with_draft}
use Rattle.bx_renaming.proofs.Placed.{no_source, no_source_named, places}
use Rattle.bx_renaming.proofs.places.places_for.Goals as goal

pub returns-in_default-clause-step : goal.returns-in_default-clause-step
returns-in_default-clause-step g c = λ truth tree same s. no_source_named tree c.args.call.now c.args.names.now.name.now c.args.names.now.new_name.now c.args.volume s.volume_is c.args.areas truth c.args.names.now.from.now c.args.names.now.to.now c.in_default.ensures

pub returns-in-Err-clause-step : goal.returns-in-Err-clause-step
returns-in-Err-clause-step g c = λ truth tree same s.
    no_source tree c.args.call.now c.args.names.now.name.now c.args.names.now.new_name.now c.args.volume s.volume_is c.args.areas truth c.args.names.now.from.now c.args.names.now.to.now c.in-Some.handle c.in-Some.ensures c.in-Err.stop
    (subst (λ (d : List Changed). FileAt c.args.areas (with_draft truth d) tree c.in-Some.handle (Err c.in-Err.stop)) c.new-none.ensures
    (c.in-Err.ensures.tree truth tree same (over_none c.args.areas truth tree c.new-none.result c.new-none.ensures s.is)))

pub returns-clause-step : goal.returns-clause-step
returns-clause-step g c = λ truth tree same s.
    let f = (subst (λ (d : List Changed). IsInodeOf c.args.areas (with_draft truth d) tree c.in-Some.handle c.in-Ok.inode) c.new-none.ensures
    (c.in-Ok.ensures.tree truth tree same (over_none c.args.areas truth tree c.new-none.result c.new-none.ensures s.is))) in
    places tree c.args.call.now c.args.names.now.name.now c.args.names.now.new_name.now c.args.volume s.volume_is c.args.areas truth c.args.names.now.from.now c.args.names.now.to.now c.in-Some.handle c.in-Some.ensures f.file f.there c.target_for.result (c.target_for.ensures.step truth tree same s f)

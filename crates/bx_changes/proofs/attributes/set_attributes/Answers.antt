use Rattle.std.proofs.Common.{List, subst, sym}
use Rattle.bx_reads.specs.bx_inodes.specs.Inodes.{HoldsInode, IsInodeOf}
use Rattle.bx_reads.proofs.Told.{over_none}
use Rattle.bx_records.specs.Drafts.{Changed}
use Rattle.bx_views.specs.Truths.{with_draft}
use Rattle.bx_changes.proofs.AttributesSet.{no_name, stopped}
use Rattle.bx_changes.proofs.LiveHeld.{live_held}
use Rattle.bx_changes.proofs.attributes.set_attributes.Goals as goal

pub returns-in_default-clause-step : goal.returns-in_default-clause-step
returns-in_default-clause-step g c = λ truth tree same s. no_name tree c.args.volume c.args.at.now c.args.call.now c.args.sattr.now c.args.now s.volume_is c.in_default.ensures

pub returns-in-Err-clause-step : goal.returns-in-Err-clause-step
returns-in-Err-clause-step g c = λ truth tree same s.
    stopped tree c.args.volume c.args.at.now c.args.call.now c.args.sattr.now c.args.now s.volume_is c.args.areas (with_draft truth c.new-none.result) truth c.in-Some.handle c.in-Err.stop c.in-Some.ensures
    (c.in-Err.ensures.tree truth tree same (over_none c.args.areas truth tree c.new-none.result c.new-none.ensures s.is))

pub returns-clause-step : goal.returns-clause-step
returns-clause-step g c = λ truth tree same s.
    let f = c.in-Ok.ensures.tree truth tree same (over_none c.args.areas truth tree c.new-none.result c.new-none.ensures s.is) in
    c.with_attributes.ensures.step c.args.areas truth tree c.args.at.now s
    (subst (λ (d : List Changed). IsInodeOf c.args.areas (with_draft truth d) tree c.in-Some.handle c.in-Ok.inode) c.new-none.ensures f) (sym c.in-Some.ensures)

pub returns-clause-held : goal.returns-clause-held
returns-clause-held g c =
    c.with_attributes.ensures.held (g.V.View.held c.args.view.now)
    (live_held (g.V.View.held c.args.view.now) (g.V.View.hints c.args.view.now) c.new-none.result c.args.areas c.in-Some.handle c.in-Ok.inode c.new-none.ensures c.in-Ok.ensures.at)

pub returns-clause-hints : goal.returns-clause-hints
returns-clause-hints g c = λ hints truth tree same s fit.
    let f = c.in-Ok.ensures.tree truth tree same (over_none c.args.areas truth tree c.new-none.result c.new-none.ensures s.is) in
    c.with_attributes.ensures.hints c.args.areas hints truth s.is.chunked (subst (λ (d : List Changed). HoldsInode c.args.areas (with_draft truth d) c.in-Some.handle c.in-Ok.inode) c.new-none.ensures f.holds) fit

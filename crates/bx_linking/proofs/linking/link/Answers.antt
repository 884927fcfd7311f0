use Rattle.std.proofs.Common.{◌≡◌, List, subst}
use Rattle.std.specs.Prelude.{Err}
use Rattle.bx_inodes.specs.Inodes.{FileAt, IsInodeOf}
use Rattle.bx_changes.specs.bx_reads.proofs.Told.{over_none}
use Rattle.bx_records.specs.Drafts.{Changed}
use Rattle.bx_views.specs.Truths.{with_draft}
use Rattle.bx_linking.proofs.Comes.{inode_never, is_changed, is_first, is_stopped, no_file, no_file_named, stop_comes}
use Rattle.bx_entries.specs.Lacking.{MakesPlace}
use Rattle.bx_base.specs.declared.names.Mode.TheVariants.{Exclusive}
use Rattle.bx_layout.specs.declared.inode.Inode.{Inode}
use Rattle.bx_model.specs.Making.{link}
use Rattle.bx_linking.proofs.linking.link.Goals as goal

pub returns-in_default-clause-step : goal.returns-in_default-clause-step
returns-in_default-clause-step g c = λ truth tree same s fit. no_file_named tree c.args.call.now c.args.at.now c.args.name.now c.args.now c.args.volume c.args.from.now s.volume_is c.in_default.ensures

pub returns-in-Err-clause-step : goal.returns-in-Err-clause-step
returns-in-Err-clause-step g c = λ truth tree same s fit.
    no_file tree c.args.call.now c.args.at.now c.args.name.now c.args.now c.args.volume c.args.from.now s.volume_is c.in-Some.handle c.in-Some.ensures c.args.areas truth c.in-Err.stop
    (subst (λ (d : List Changed). FileAt c.args.areas (with_draft truth d) tree c.in-Some.handle (Err c.in-Err.stop)) c.new-none.ensures
    (c.in-Err.ensures.tree truth tree same (over_none c.args.areas truth tree c.new-none.result c.new-none.ensures s.is)))

pub returns-in-Err-link_into-clause-step : goal.returns-in-Err-link_into-clause-step
returns-in-Err-link_into-clause-step g c = λ truth tree same s fit.
    let f = (subst (λ (d : List Changed). IsInodeOf c.args.areas (with_draft truth d) tree c.in-Some.handle c.in-Ok.inode) c.new-none.ensures
    (c.in-Ok.ensures.tree truth tree same (over_none c.args.areas truth tree c.new-none.result c.new-none.ensures s.is))) in
    is_stopped tree c.args.call.now c.args.at.now c.args.name.now c.args.now c.args.volume c.args.from.now s.volume_is c.in-Some.handle c.in-Some.ensures c.args.areas truth c.in-Ok.inode f c.in-Err-link_into.error (c.in-Err-link_into.ensures.step truth tree same s fit f)

pub returns-clause-step : goal.returns-clause-step
returns-clause-step g c = λ truth tree same s fit.
    let f = (subst (λ (d : List Changed). IsInodeOf c.args.areas (with_draft truth d) tree c.in-Some.handle c.in-Ok.inode) c.new-none.ensures
    (c.in-Ok.ensures.tree truth tree same (over_none c.args.areas truth tree c.new-none.result c.new-none.ensures s.is))) in
    is_changed tree c.args.call.now c.args.at.now c.args.name.now c.args.now c.args.volume c.args.from.now s.volume_is c.in-Some.handle c.in-Some.ensures c.args.areas truth c.in-Ok.inode f s c.in-Ok-link_into.draft (c.in-Ok-link_into.ensures.step truth tree same s fit f)

pub returns-clause-hints : goal.returns-clause-hints
returns-clause-hints g c = λ hints truth tree same s fit other.
    let f = (subst (λ (d : List Changed). IsInodeOf c.args.areas (with_draft truth d) tree c.in-Some.handle c.in-Ok.inode) c.new-none.ensures
    (c.in-Ok.ensures.tree truth tree same (over_none c.args.areas truth tree c.new-none.result c.new-none.ensures s.is))) in
    (c.in-Ok-link_into.ensures.step truth tree same s fit f).leaves.leads hints other

pub returns-in-Err-link_into-clause-lacks : goal.returns-in-Err-link_into-clause-lacks
returns-in-Err-link_into-clause-lacks g c = λ truth tree same s fit.
    let f = (subst (λ (d : List Changed). IsInodeOf c.args.areas (with_draft truth d) tree c.in-Some.handle c.in-Ok.inode) c.new-none.ensures
    (c.in-Ok.ensures.tree truth tree same (over_none c.args.areas truth tree c.new-none.result c.new-none.ensures s.is))) in
    is_first tree c.args.call.now c.args.at.now c.args.name.now c.args.now c.args.volume c.args.from.now s.volume_is c.in-Some.handle c.in-Some.ensures c.args.areas truth c.in-Ok.inode f
    (MakesPlace c.args.volume c.args.areas (g.V.View.held c.args.view.now) (g.V.View.hints c.args.view.now) truth c.args.at.now c.args.name.now) c.in-Err-link_into.error (c.in-Err-link_into.ensures.step truth tree same s fit f) (c.in-Err-link_into.ensures.lacks truth tree same s fit f)

pub returns-in-Err-clause-lacks : goal.returns-in-Err-clause-lacks
returns-in-Err-clause-lacks g c = λ truth tree same s fit.
    stop_comes Inode (λ status. link tree c.args.call.now c.args.from.now c.args.at.now c.args.name.now c.args.now 8 ≡ Err status) (MakesPlace c.args.volume c.args.areas (g.V.View.held c.args.view.now) (g.V.View.hints c.args.view.now) truth c.args.at.now c.args.name.now) c.in-Err.stop
    (inode_never _ c.args.areas c.in-Some.handle Exclusive c.in-Err.stop c.in-Err.ensures.at)

pub returns-clause-ready : goal.returns-clause-ready
returns-clause-ready g c = λ truth tree same s fit.
    let f = (subst (λ (d : List Changed). IsInodeOf c.args.areas (with_draft truth d) tree c.in-Some.handle c.in-Ok.inode) c.new-none.ensures
    (c.in-Ok.ensures.tree truth tree same (over_none c.args.areas truth tree c.new-none.result c.new-none.ensures s.is))) in
    c.in-Ok-link_into.ensures.ready truth tree same s fit f

pub returns-in-Err-link_into-clause-wanted : goal.returns-in-Err-link_into-clause-wanted
returns-in-Err-link_into-clause-wanted g c = λ truth tree same s fit.
    let f = (subst (λ (d : List Changed). IsInodeOf c.args.areas (with_draft truth d) tree c.in-Some.handle c.in-Ok.inode) c.new-none.ensures
    (c.in-Ok.ensures.tree truth tree same (over_none c.args.areas truth tree c.new-none.result c.new-none.ensures s.is))) in
    c.in-Err-link_into.ensures.wanted truth tree same s fit f

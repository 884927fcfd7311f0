use Rattle.std.proofs.Common.{◌≡◌, ◌∙◌, List, subst, sym}
use Rattle.std.specs.Prelude.{Err}
use Rattle.bx_base.specs.declared.names.Mode.TheVariants.{Exclusive}
use Rattle.bx_blink.specs.Walks.{reads_with}
use Rattle.bx_changes.proofs.AttributesSet.{no_name, stopped}
use Rattle.bx_inodes.specs.Inodes.{IsInodeOf, LiveAt}
use Rattle.bx_model.specs.Writing.{setattr}
use Rattle.bx_changes.specs.bx_reads.proofs.Told.{over_none}
use Rattle.bx_records.specs.Drafts.{Changed}
use Rattle.bx_views.specs.Truths.{with_draft}
use Rattle.bx_sizes.proofs.First.{never_first, no_inode_stops, not_given}
use Rattle.bx_sizes.proofs.Set.{change_or, on_setting}
use Rattle.bx_sizes.specs.Cuts.{PreparesSetting}
use Rattle.bx_sizes.proofs.setting.setattr.Goals as goal

pub returns-then-not-is_given-clause-step : goal.returns-then-not-is_given-clause-step
returns-then-not-is_given-clause-step g c = λ truth tree few same s fit.
    change_or c.args.volume c.args.areas truth tree (setattr tree c.args.call.now c.args.at.now c.args.sattr.now c.args.now) c.set_attributes.result (c.set_attributes.ensures.step truth tree same s)

pub returns-then-not-is_given-clause-hints : goal.returns-then-not-is_given-clause-hints
returns-then-not-is_given-clause-hints g c = λ hints truth tree few same s fit all. c.set_attributes.ensures.hints hints truth tree same s all

pub returns-in_default-clause-step : goal.returns-in_default-clause-step
returns-in_default-clause-step g c = λ truth tree few same s fit.
    no_name tree c.args.volume c.args.at.now c.args.call.now c.args.sattr.now c.args.now s.volume_is c.in_default.ensures

pub returns-in-Err-clause-step : goal.returns-in-Err-clause-step
returns-in-Err-clause-step g c = λ truth tree few same s fit.
    change_or c.args.volume c.args.areas truth tree (setattr tree c.args.call.now c.args.at.now c.args.sattr.now c.args.now) (Err c.in-Err.stop)
    (stopped tree c.args.volume c.args.at.now c.args.call.now c.args.sattr.now c.args.now s.volume_is c.args.areas (with_draft truth c.new-none.result) truth c.in-Some.handle c.in-Err.stop c.in-Some.ensures
    (c.in-Err.ensures.tree truth tree same (over_none c.args.areas truth tree c.new-none.result c.new-none.ensures s.is)))

pub returns-clause-step : goal.returns-clause-step
returns-clause-step g c = λ truth tree few same s fit.
    let f = c.in-Ok.ensures.tree truth tree same (over_none c.args.areas truth tree c.new-none.result c.new-none.ensures s.is) in
    c.set_all.ensures.step truth tree c.args.at.now few same s fit (subst (λ (d : List Changed). IsInodeOf c.args.areas (with_draft truth d) tree c.in-Some.handle c.in-Ok.inode) c.new-none.ensures f) (sym c.in-Some.ensures)

pub returns-clause-hints : goal.returns-clause-hints
returns-clause-hints g c = λ hints truth tree few same s fit all.
    let f = c.in-Ok.ensures.tree truth tree same (over_none c.args.areas truth tree c.new-none.result c.new-none.ensures s.is) in
    c.set_all.ensures.hints hints truth tree few same s fit (subst (λ (d : List Changed). IsInodeOf c.args.areas (with_draft truth d) tree c.in-Some.handle c.in-Ok.inode) c.new-none.ensures f) all

pub returns-clause-need : goal.returns-clause-need
returns-clause-need g c =
    let held = g.V.View.held c.args.view.now in
    let hints = g.V.View.hints c.args.view.now in
    on_setting held hints c.args.volume c.args.areas c.args.at.now c.args.sattr.now.size c.in-Some.handle c.in-Ok.inode (sym c.is_given.ensures ∙ c.if-not-is_given.false) (sym c.in-Some.ensures)
    (subst (λ (d : List Changed). LiveAt (reads_with held hints d) c.args.areas c.in-Some.handle Exclusive c.in-Ok.inode) c.new-none.ensures c.in-Ok.ensures.at) c.set_all.result c.set_all.ensures.need

pub returns-then-not-is_given-clause-lacks : goal.returns-then-not-is_given-clause-lacks
returns-then-not-is_given-clause-lacks g c = λ truth tree few same s fit.
    never_first (λ status. setattr tree c.args.call.now c.args.at.now c.args.sattr.now c.args.now ≡ Err status) (PreparesSetting c.args.volume c.args.areas truth c.args.at.now c.args.sattr.now.size)
    c.set_attributes.result c.set_attributes.ensures.inner

pub returns-in-Err-clause-lacks : goal.returns-in-Err-clause-lacks
returns-in-Err-clause-lacks g c = λ truth tree few same s fit.
    no_inode_stops (λ status. setattr tree c.args.call.now c.args.at.now c.args.sattr.now c.args.now ≡ Err status) (PreparesSetting c.args.volume c.args.areas truth c.args.at.now c.args.sattr.now.size)
    (reads_with (g.V.View.held c.args.view.now) (g.V.View.hints c.args.view.now) c.new-none.result) c.args.areas c.in-Some.handle Exclusive c.in-Err.stop c.in-Err.ensures.at

pub returns-clause-lacks : goal.returns-clause-lacks
returns-clause-lacks g c = λ truth tree few same s fit.
    let f = c.in-Ok.ensures.tree truth tree same (over_none c.args.areas truth tree c.new-none.result c.new-none.ensures s.is) in
    c.set_all.ensures.lacks truth tree c.args.at.now few same s fit (subst (λ (d : List Changed). IsInodeOf c.args.areas (with_draft truth d) tree c.in-Some.handle c.in-Ok.inode) c.new-none.ensures f) (sym c.in-Some.ensures)

pub returns-then-not-is_given-clause-ready : goal.returns-then-not-is_given-clause-ready
returns-then-not-is_given-clause-ready g c = λ truth tree few same s fit.
    not_given c.args.volume c.args.areas truth c.args.at.now c.args.sattr.now.size (sym c.is_given.ensures ∙ c.if-not-is_given.true) c.set_attributes.result

pub returns-clause-ready : goal.returns-clause-ready
returns-clause-ready g c = λ truth tree few same s fit.
    let f = c.in-Ok.ensures.tree truth tree same (over_none c.args.areas truth tree c.new-none.result c.new-none.ensures s.is) in
    c.set_all.ensures.ready truth tree c.args.at.now few same s fit (subst (λ (d : List Changed). IsInodeOf c.args.areas (with_draft truth d) tree c.in-Some.handle c.in-Ok.inode) c.new-none.ensures f) (sym c.in-Some.ensures)

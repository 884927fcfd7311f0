use Rattle.std.proofs.Common.{List, subst, sym, ◌∙◌, ◌≡◌}
use Rattle.bx_inodes.specs.Fitting.{HintsFitAll}
use Rattle.bx_model.specs.Making.{create_over}
use Rattle.bx_records.specs.Drafts.{Changed}
use Rattle.bx_views.specs.Truths.{with_draft}
use Rattle.bx_creating.proofs.SizeSet.{not_given, stops_over, tells_over}
use Rattle.std.specs.Prelude.{Err}
use Rattle.bx_model.specs.declared.reply.Reply.{Reply}
use Rattle.bx_creating.specs.Lacking.{ClearsGiven}
use Rattle.bx_creating.proofs.First.{inode_never, stop_comes}
use Rattle.bx_inodes.specs.Inodes.{FileAt, IsInodeOf}
use Rattle.bx_changes.specs.bx_reads.proofs.Told.{over_none}
use Rattle.bx_creating.proofs.NamesThere.{irregular, not_there}
use Rattle.bx_base.specs.declared.names.Mode.TheVariants.{Exclusive}
use Rattle.bx_layout.specs.declared.inode.Inode.{Inode}
use Rattle.bx_creating.proofs.existing.create_over.Goals as goal

pub returns-in-Err-clause-step : goal.returns-in-Err-clause-step
returns-in-Err-clause-step g c = λ truth tree few same s fit.
    stops_over c.args.volume c.args.areas truth tree (create_over tree c.args.call.now c.args.handle c.args.sattr.now c.args.now) c.in-Err.stop
    (c.in-Err.ensures.step truth tree c.args.call.now c.args.sattr.now c.args.now same s (sym c.is_given.ensures ∙ c.if-not-is_given.true))

pub returns-in-Ok-clause-step : goal.returns-in-Ok-clause-step
returns-in-Ok-clause-step g c = λ truth tree few same s fit.
    tells_over c.args.volume c.args.areas truth tree (create_over tree c.args.call.now c.args.handle c.args.sattr.now c.args.now) c.new.result c.in-Ok.reply c.new.ensures s
    (c.in-Ok.ensures.step truth tree c.args.call.now c.args.sattr.now c.args.now same s (sym c.is_given.ensures ∙ c.if-not-is_given.true))

pub returns-in-Ok-clause-hints : goal.returns-in-Ok-clause-hints
returns-in-Ok-clause-hints g c = λ other truth tree few same s fit all. subst (λ (d : List Changed). HintsFitAll c.args.areas other (with_draft truth d)) (sym c.new.ensures) all

pub returns-in-Err-clause-lacks : goal.returns-in-Err-clause-lacks
returns-in-Err-clause-lacks g c = λ truth tree few same s fit.
    stop_comes Reply (λ status. create_over tree c.args.call.now c.args.handle c.args.sattr.now c.args.now ≡ Err status) (ClearsGiven c.args.areas truth c.args.handle c.args.sattr.now.size) c.in-Err.stop
    c.in-Err.ensures.inner

pub returns-in-Ok-clause-ready : goal.returns-in-Ok-clause-ready
returns-in-Ok-clause-ready g c = λ truth tree few same s fit. not_given c.args.areas truth c.args.handle c.args.sattr.now.size (sym c.is_given.ensures ∙ c.if-not-is_given.true)

pub returns-in-Err-inode_at-clause-step : goal.returns-in-Err-inode_at-clause-step
returns-in-Err-inode_at-clause-step g c = λ truth tree few same s fit.
    stops_over c.args.volume c.args.areas truth tree (create_over tree c.args.call.now c.args.handle c.args.sattr.now c.args.now) c.in-Err-inode_at.stop
    (not_there tree c.args.call.now c.args.sattr.now c.args.now c.args.areas truth c.args.handle c.in-Err-inode_at.stop
    (subst (λ (d : List Changed). FileAt c.args.areas (with_draft truth d) tree c.args.handle (Err c.in-Err-inode_at.stop)) c.new-none.ensures
    (c.in-Err-inode_at.ensures.tree truth tree same (over_none c.args.areas truth tree c.new-none.result c.new-none.ensures s.is))))

pub returns-then-inode-ne-REGULAR-clause-step : goal.returns-then-inode-ne-REGULAR-clause-step
returns-then-inode-ne-REGULAR-clause-step g c = λ truth tree few same s fit.
    let f = subst (λ (d : List Changed). IsInodeOf c.args.areas (with_draft truth d) tree c.args.handle c.in-Ok-inode_at.inode) c.new-none.ensures
    (c.in-Ok-inode_at.ensures.tree truth tree same (over_none c.args.areas truth tree c.new-none.result c.new-none.ensures s.is)) in
    irregular tree c.args.call.now c.args.sattr.now c.args.now c.args.areas truth c.args.handle c.in-Ok-inode_at.inode f c.if-inode-ne-REGULAR.true

pub returns-clause-step : goal.returns-clause-step
returns-clause-step g c = λ truth tree few same s fit.
    let f = subst (λ (d : List Changed). IsInodeOf c.args.areas (with_draft truth d) tree c.args.handle c.in-Ok-inode_at.inode) c.new-none.ensures
    (c.in-Ok-inode_at.ensures.tree truth tree same (over_none c.args.areas truth tree c.new-none.result c.new-none.ensures s.is)) in
    c.set_over.ensures.step truth tree few same s fit f

pub returns-clause-hints : goal.returns-clause-hints
returns-clause-hints g c = λ other truth tree few same s fit all.
    let f = subst (λ (d : List Changed). IsInodeOf c.args.areas (with_draft truth d) tree c.args.handle c.in-Ok-inode_at.inode) c.new-none.ensures
    (c.in-Ok-inode_at.ensures.tree truth tree same (over_none c.args.areas truth tree c.new-none.result c.new-none.ensures s.is)) in
    c.set_over.ensures.hints other truth tree few same s fit f all

pub returns-clause-lacks : goal.returns-clause-lacks
returns-clause-lacks g c = λ truth tree few same s fit.
    let f = subst (λ (d : List Changed). IsInodeOf c.args.areas (with_draft truth d) tree c.args.handle c.in-Ok-inode_at.inode) c.new-none.ensures
    (c.in-Ok-inode_at.ensures.tree truth tree same (over_none c.args.areas truth tree c.new-none.result c.new-none.ensures s.is)) in
    c.set_over.ensures.lacks truth tree few same s fit f

pub returns-in-Err-inode_at-clause-lacks : goal.returns-in-Err-inode_at-clause-lacks
returns-in-Err-inode_at-clause-lacks g c = λ truth tree few same s fit.
    stop_comes Inode (λ status. create_over tree c.args.call.now c.args.handle c.args.sattr.now c.args.now ≡ Err status) (ClearsGiven c.args.areas truth c.args.handle c.args.sattr.now.size) c.in-Err-inode_at.stop
    (inode_never _ c.args.areas c.args.handle Exclusive c.in-Err-inode_at.stop c.in-Err-inode_at.ensures.at)

pub returns-clause-ready : goal.returns-clause-ready
returns-clause-ready g c = λ truth tree few same s fit.
    let f = subst (λ (d : List Changed). IsInodeOf c.args.areas (with_draft truth d) tree c.args.handle c.in-Ok-inode_at.inode) c.new-none.ensures
    (c.in-Ok-inode_at.ensures.tree truth tree same (over_none c.args.areas truth tree c.new-none.result c.new-none.ensures s.is)) in
    c.set_over.ensures.ready truth tree few same s fit f

use Rattle.std.proofs.Common.{refl, sym, ◌∙◌, Some}
use Rattle.bx_world_events.specs.declared.event.Event.TheVariants.{Deliver, Sync}
use Rattle.bx_driver.specs.Runs.IsDue.{Arrives, Syncs, Rests}
use Rattle.bx_driver.proofs.Turns.{arrives_allowed, least_arrives, none_arrives, one_due, syncs_allowed}
use Rattle.bx_driver.proofs.runs.due.Goals as goal

pub returns-in-Some-clause-due : goal.returns-in-Some-clause-due
returns-in-Some-clause-due g c = Arrives c.in-Some.number refl (least_arrives (g.C.Shows.seen c.args.cluster.now) c.args.held.now c.in-Some.number (sym c.next.ensures ∙ c.in-Some.is))

pub returns-in-Some-clause-only : goal.returns-in-Some-clause-only
returns-in-Some-clause-only g c = λ other due. one_due (g.C.Shows.seen c.args.cluster.now) c.args.held.now c.args.reading other (Some (Deliver c.args.reading c.in-Some.number)) due (returns-in-Some-clause-due g c)

pub returns-in-Some-clause-allowed : goal.returns-in-Some-clause-allowed
returns-in-Some-clause-allowed g c =
    let least = least_arrives (g.C.Shows.seen c.args.cluster.now) c.args.held.now c.in-Some.number (sym c.next.ensures ∙ c.in-Some.is) in
    arrives_allowed (g.C.Shows.seen c.args.cluster.now) c.args.held.now c.args.reading c.in-Some.number least.stands

pub returns-in_err-at-clause-due : goal.returns-in_err-at-clause-due
returns-in_err-at-clause-due g c =
    Rests c.from_residual.ensures (none_arrives (g.C.Shows.seen c.args.cluster.now) c.args.held.now (sym c.next.ensures ∙ c.in_default.is)) (c.lowest_waiting.ensures.none c.in_err-at.was)

pub returns-in_err-at-clause-only : goal.returns-in_err-at-clause-only
returns-in_err-at-clause-only g c = λ other due. one_due (g.C.Shows.seen c.args.cluster.now) c.args.held.now c.args.reading other c.from_residual.result due (returns-in_err-at-clause-due g c)

pub returns-clause-due : goal.returns-clause-due
returns-clause-due g c =
    Syncs c.in_ok-at.at refl (none_arrives (g.C.Shows.seen c.args.cluster.now) c.args.held.now (sym c.next.ensures ∙ c.in_default.is)) c.in_ok-at.ensures.some

pub returns-clause-only : goal.returns-clause-only
returns-clause-only g c = λ other due. one_due (g.C.Shows.seen c.args.cluster.now) c.args.held.now c.args.reading other (Some (Sync c.in_ok-at.at)) due (returns-clause-due g c)

pub returns-clause-allowed : goal.returns-clause-allowed
returns-clause-allowed g c = syncs_allowed (g.C.Shows.seen c.args.cluster.now) c.in_ok-at.at c.in_ok-at.ensures.some.disk c.in_ok-at.ensures.some.syncs

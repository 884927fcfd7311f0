use Rattle.std.proofs.Common.{[], Ok, Err, refl, subst, ◌∙◌}
use Rattle.std.proofs.lemmas.Result.{err_from_is_err_and}
use Rattle.bx_host.specs.Standing.{AreAny, Goes, standing}
use Rattle.bx_host.specs.Steps.{Along}
use Rattle.bx_host.specs.Turns.{IsDueNow, IsOne, IsOver, IsRun}
use Rattle.bx_host.proofs.Acting.{goes_as, goes_both, goes_both_at, goes_err, goes_none}
use Rattle.bx_host.proofs.Dues.{due_brings, due_counts}
use Rattle.bx_host.proofs.Going.{due_more}
use Rattle.bx_host.proofs.host.Host.run.Goals as goal

pub loop-event-init : goal.loop-event-init
loop-event-init g c = record {
  so = goes_none g.C.Shows.seen g.C.Cluster.room g.C.Cluster.led g.R.Rack (Along (IsDueNow c.args.self.now.reading)) c.args.self.now c.args.rack.now refl;
  can = c.requires.goes;
  events = refl;
}

pub loop-event-preserved : goal.loop-event-preserved
loop-event-preserved g c =
    let was = c.loop-event.invariant in
    let act = c.in_ok-act.ensures in
    let seen = g.C.Shows.seen c.loop-event.self.cluster in
    let reading = c.args.self.now.reading in
    let event = c.in-Some.event in
    let due = subst (λ r. IsDueNow r seen event) was.so.reading c.in-Some.ensures.due.1 in
    let a = standing g.C.Shows.seen g.C.Cluster.room g.C.Cluster.led g.R.Rack c.args.self.now c.args.rack.now in
    let b = standing g.C.Shows.seen g.C.Cluster.room g.C.Cluster.led g.R.Rack c.loop-event.self c.loop-event.rack in
    let acts = subst (λ l. Goes g.C.Shows.seen g.C.Cluster.room g.C.Cluster.led g.R.Rack {A = Unit {0}} (Ok tt) (IsOne event) l c.loop-event.self c.loop-event.rack c.act.new.self c.act.new.rack) (due_brings reading seen event due) act.ends in
    record {
      so = goes_both_at g.C.Shows.seen g.C.Cluster.room g.C.Cluster.led g.R.Rack (Along (IsDueNow reading)) (IsOne event) (Along (IsDueNow reading)) [] [] c.args.self.now c.loop-event.self c.act.new.self c.args.rack.now c.loop-event.rack c.act.new.rack _ tt
          (λ earlier later run is. due_more reading event a.place b.place _ earlier later due run is) was.so acts;
      can = act.goes;
      events = due_counts reading seen event _ _ due act.counted ∙ was.events;
    }

pub returns-in_err-act-clause-ends : goal.returns-in_err-act-clause-ends
returns-in_err-act-clause-ends g c =
    let p = err_from_is_err_and c.from_residual.result c.from_residual.ensures.1 in
    let reading = c.args.self.now.reading in
    let seen = g.C.Shows.seen c.loop-event.self.cluster in
    let due = subst (λ r. IsDueNow r seen c.in-Some.event) c.loop-event.invariant.so.reading c.in-Some.ensures.due.1 in
    let acts = subst (λ l. Goes g.C.Shows.seen g.C.Cluster.room g.C.Cluster.led g.R.Rack {A = Unit {0}} (Err c.in_err-act.field-0.0) (IsOne c.in-Some.event) l c.loop-event.self c.loop-event.rack c.act.new.self c.act.new.rack) (due_brings reading seen c.in-Some.event due) c.in_err-act.ensures.ends in
    rw (p.1, p.2) (goes_err g.C.Shows.seen g.C.Cluster.room g.C.Cluster.led g.R.Rack (Unit {0}) (Unit {0}) AreAny (IsRun c.args.self.now.reading) [] c.args.self.now c.act.new.self c.args.rack.now c.act.new.rack _
    (goes_both g.C.Shows.seen g.C.Cluster.room g.C.Cluster.led g.R.Rack (Along (IsDueNow c.args.self.now.reading)) (IsOne c.in-Some.event) AreAny [] [] c.args.self.now c.loop-event.self c.act.new.self c.args.rack.now c.loop-event.rack c.act.new.rack _ tt (λ earlier later middle from to run is. tt) c.loop-event.invariant.so acts))

pub returns-clause-ends : goal.returns-clause-ends
returns-clause-ends g c =
    let was = c.loop-event.invariant in
    let reading = c.args.self.now.reading in
    let place = (standing g.C.Shows.seen g.C.Cluster.room g.C.Cluster.led g.R.Rack c.loop-event.self c.loop-event.rack).place in
    let over : IsOver reading place = subst (λ r. IsOver r place) was.so.reading (c.due_now.ensures.over c.in_default.is) in
    goes_as g.C.Shows.seen g.C.Cluster.room g.C.Cluster.led g.R.Rack (Along (IsDueNow reading)) (IsRun reading) [] c.args.self.now c.loop-event.self c.args.rack.now c.loop-event.rack tt (λ from steps run. (run, over)) was.so

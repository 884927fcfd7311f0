use Rattle.std.proofs.Common.{◌≡◌, ◌+◌, inl, inr, refl, arith, sym, subst, ◌∙◌, Some, None}
use Rattle.std.proofs.lemmas.Result.{err_from_is_err_and}
use Rattle.bx_disk.specs.declared.noise.Noise.TheVariants.{Keep}
use Rattle.bx_driver.specs.Runs.{IsDue}
use Rattle.bx_script.specs.declared.line.Line.TheVariants.{Run}
use Rattle.bx_schedule.specs.Places.{place_of}
use Rattle.bx_schedule.specs.Refusing.IsRefusal.{OfRun}
use Rattle.bx_schedule.proofs.Acting.{keeps_both, keeps_none}
use Rattle.bx_schedule.proofs.Allowing.{in_time}
use Rattle.bx_schedule.proofs.Dues.{AreDue, due_counts, due_in_time, due_moment, due_more, due_within, grown, not_late, not_under}
use Rattle.bx_schedule.proofs.Going.{goes_more, goes_none}
use Rattle.bx_schedule.proofs.Lining.{ends_back, ends_memory, ends_run}
use Rattle.bx_schedule.proofs.schedule.Schedule.run.Goals as goal

pub returns-in_err-take_reading-clause-ends : goal.returns-in_err-take_reading-clause-ends
returns-in_err-take_reading-clause-ends g c =
    let p = err_from_is_err_and c.from_residual.result c.from_residual.ensures.1 in
    rw (p.1, p.2) (ends_back g.C.Shows.seen g.C.Cluster.led g.R.Rack (Run c.args.reading c.args.limit) _ (place_of c.args.self.now) c.take_reading.new.clock c.args.rack.now (OfRun c.args.reading c.args.limit refl (sym c.in_err-take_reading.ensures.why)) c.in_err-take_reading.ensures.same)

pub loop-turn-init : goal.loop-turn-init
loop-turn-init g c = record {
  so = goes_none g.C.Shows.seen g.C.Cluster.led g.R.Rack (AreDue c.args.self.now.held c.args.reading 0) Keep (place_of c.args.self.now) _ c.args.rack.now c.args.rack.now (refl, refl) (λ tree parts led. led) refl refl refl (keeps_none g.R.Rack c.args.rack.now);
  can = record {
    small = c.requires.goes.small;
    clock = grown c.args.reading c.args.self.now.clock c.take_reading.new.clock (g.C.Shows.seen c.args.self.now.cluster).greatest c.in_ok-take_reading.ensures.taken.1 c.requires.goes.clock;
    room = c.requires.goes.room;
  };
  events = refl;
  held = refl;
  clock = c.in_ok-take_reading.ensures.taken.1;
}

pub act-requires-clause-goes : goal.act-requires-clause-goes
act-requires-clause-goes g c = c.loop-turn.invariant.can

pub act-requires-clause-few : goal.act-requires-clause-few
act-requires-clause-few g c =
    let same = c.loop-turn.invariant.events in
    let few = c.requires.few in
    omega (arith, same, few)

pub act-requires-clause-moment : goal.act-requires-clause-moment
act-requires-clause-moment g c = due_moment c.loop-turn.self.held c.args.reading (g.C.Shows.seen c.loop-turn.self.cluster) c.in-Some.event c.requires.time c.in-Some.ensures.due

pub act-requires-clause-within : goal.act-requires-clause-within
act-requires-clause-within g c =
    let under = not_under c.args.reading c.args.self.now.clock c.loop-turn.self.clock c.loop-turn.invariant.clock in
    due_within c.loop-turn.self.held c.args.reading c.loop-turn.self.clock (g.C.Shows.seen c.loop-turn.self.cluster) c.in-Some.event under c.in-Some.ensures.due

pub act-requires-clause-allowed : goal.act-requires-clause-allowed
act-requires-clause-allowed g c =
    let seen = g.C.Shows.seen c.loop-turn.self.cluster in
    let late = not_late c.args.reading c.args.self.now.clock c.loop-turn.self.clock seen.greatest (in_time c.args.self.now.clock c.args.reading c.in_ok-take_reading.ensures.taken.0) c.loop-turn.invariant.clock c.loop-turn.invariant.can.clock in
    c.in-Some.ensures.allowed ∙ due_in_time c.loop-turn.self.held c.args.reading seen c.in-Some.event late c.in-Some.ensures.due

pub returns-in_err-act-clause-ends : goal.returns-in_err-act-clause-ends
returns-in_err-act-clause-ends g c =
    let p = err_from_is_err_and c.from_residual-in_err-act.result c.from_residual-in_err-act.ensures.1 in
    rw (p.1, p.2) (ends_memory g.C.Shows.seen g.C.Cluster.led g.R.Rack (Run c.args.reading c.args.limit) _ (place_of c.args.self.now) c.args.rack.now (place_of c.act.new.self) c.act.new.rack c.in_err-act.ensures.why (keeps_both g.R.Rack c.args.rack.now c.loop-turn.rack c.act.new.rack c.loop-turn.invariant.so.keeps c.act.ensures.keeps))

pub loop-turn-preserved : goal.loop-turn-preserved
loop-turn-preserved g c =
    let was = c.loop-turn.invariant in
    let seen = g.C.Shows.seen c.loop-turn.self.cluster in
    let held = c.args.self.now.held in
    let event = c.in-Some.event in
    let due = subst (λ h. IsDue seen h c.args.reading (Some event)) was.held c.in-Some.ensures.due in
    record {
      so = goes_more g.C.Shows.seen g.C.Cluster.led g.R.Rack (AreDue held c.args.reading c.loop-turn._turn) (AreDue held c.args.reading (c.loop-turn._turn + 1)) Keep event (place_of c.args.self.now) (place_of c.loop-turn.self) (place_of c.act.new.self) c.args.rack.now c.loop-turn.rack c.act.new.rack
          (λ steps are step is goes. due_more held c.args.reading c.loop-turn._turn event _ seen _ steps due are step is goes) was.so c.in_ok-act.ensures.acts;
      can = c.in_ok-act.ensures.goes;
      events = due_counts c.loop-turn.self.held c.args.reading seen event _ _ c.in-Some.ensures.due c.in_ok-act.ensures.counted ∙ was.events;
      held = c.act.ensures.same.0 ∙ was.held;
      clock = c.act.ensures.same.1 ∙ was.clock;
    }

pub returns-in_default-clause-ends : goal.returns-in_default-clause-ends
returns-in_default-clause-ends g c =
    let was = c.loop-turn.invariant in
    let seen = g.C.Shows.seen c.loop-turn.self.cluster in
    let less = c.loop-turn-test.true in
    let none = subst (λ o. IsDue seen c.loop-turn.self.held c.args.reading o) c.in_default.is c.due.ensures.due in
    ends_run g.C.Shows.seen g.C.Cluster.led g.R.Rack c.args.reading c.args.limit c.loop-turn._turn (place_of c.args.self.now) c.args.rack.now (place_of c.loop-turn.self) c.loop-turn.rack c.in_ok-take_reading.ensures.taken.0 was.so (omega (arith, less)) (inr (subst (λ h. IsDue seen h c.args.reading None) was.held none)) was.held was.clock tt

pub returns-clause-ends : goal.returns-clause-ends
returns-clause-ends g c =
    let was = c.loop-turn.invariant in
    let all : c.loop-turn._turn ≡ c.args.limit = omega arith in
    ends_run g.C.Shows.seen g.C.Cluster.led g.R.Rack c.args.reading c.args.limit c.loop-turn._turn (place_of c.args.self.now) c.args.rack.now (place_of c.loop-turn.self) c.loop-turn.rack c.in_ok-take_reading.ensures.taken.0 was.so (omega (arith, all)) (inl all) was.held was.clock tt

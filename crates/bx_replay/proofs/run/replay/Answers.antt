use Rattle.std.proofs.Common.{◌+◌, ap, inl, inr, refl, ◌∙◌, arith}
use Rattle.std.specs.FinSet as set
use Rattle.std.proofs.lemmas.Result.{IfErr-weaker, err_from_is_err_and, on_ok_weaker}
use Rattle.bx_base.specs.Faults.{Rose}
use Rattle.bx_disk.specs.declared.noise.Noise.TheVariants.{Drop}
use Rattle.bx_schedule.specs.Execution.{snapshot_of}
use Rattle.bx_schedule.specs.Places.{place_of}
use Rattle.bx_schedule.specs.Placing.{lines_of}
use Rattle.bx_replay.specs.Bench.{all_crashed}
use Rattle.bx_replay.specs.Outcome.{IsShownBy}
use Rattle.bx_replay.proofs.Causes.{begin_cause, err_is, finish_cause, line_cause, line_no_disk, rises, same_least, step_cause, step_no_disk, unless_read, unless_write}
use Rattle.bx_replay.proofs.Ending.{ending, heads}
use Rattle.bx_replay.proofs.Goings.{begins_broken, going_on, of_lines}
use Rattle.bx_replay.proofs.Leavings.{begin_stops, finish_leaves, line_stops, shown_by, step_stops}
use Rattle.bx_replay.proofs.ReadLines.{all_read, behind}
use Rattle.bx_replay.proofs.Running.{going_first, going_later, read_first, read_later, read_one}
use Rattle.bx_replay.proofs.Weaker.{refused_for_weaker, rose_on}
use Rattle.bx_replay.proofs.run.replay.Goals as goal

pub returns-in_err-reader : goal.returns-in_err-reader
returns-in_err-reader g c =
    let p = err_from_is_err_and c.from_residual.result c.from_residual.ensures.1 in
    record {
      leaves = λ source_tells. rw (p.1, p.2) (λ tells. begins_broken _ (g.S.Source.left c.args.input.now) (g.K.Sink.written c.args.out.now));
      dropped = λ disk sector tells. rw p.1 tt;
      cause = rw (p.1, p.2) tt;
      disk_when = λ is source_tells. inl refl;
      bench_later = same_least _ _ refl;
      bench_tells = λ tells. tells;
      source_first = unless_read c.from_residual.result refl;
      sink_first = unless_write c.from_residual.result refl;
      source_later = same_least _ _ refl;
      sink_later = same_least _ _ refl;
      source_tells = λ tells. tells;
      sink_tells = λ tells. tells;
    }

pub returns-in_err-schedule : goal.returns-in_err-schedule
returns-in_err-schedule g c =
    let p = err_from_is_err_and c.from_residual-in_err-schedule.result c.from_residual-in_err-schedule.ensures.1 in
    let why = c.in_err-schedule.ensures in
    record {
      leaves = λ source_tells.
          rw (p.1, p.2) (begin_stops _ {A = ⊥} (λ none. absurd none) (λ none. 0) (g.K.Sink.tells c.args.out.now × g.B.Rack.tells c.args.bench.now) (IsShownBy (g.B.Rack.state c.begin.new.bench)) c.in_err-schedule.field-0.0 _ _ _ (g.K.Sink.written c.args.out.now) _ _ _ _ why.cause
          (rw (ap (λ (r : _). r.ahead) c.in_ok-reader.ensures) at (why.begins source_tells)));
      dropped = λ disk sector tells. rw p.1 tt;
      cause = rw (p.1, p.2) (begin_cause (g.B.Rack.tells c.args.bench.now) c.in_err-schedule.field-0.0 _ _ _ _ _ _ why.cause);
      disk_when = λ is source_tells. inl refl;
      bench_later = why.bench_later;
      bench_tells = why.bench_tells;
      source_first = rw (p.1, p.2) why.first;
      sink_first = unless_write c.from_residual-in_err-schedule.result refl;
      source_later = why.later;
      sink_later = same_least _ _ refl;
      source_tells = why.keeps_telling;
      sink_tells = λ tells. tells;
    }

pub lines-init : goal.lines-init
lines-init g c =
    let began = c.in_ok-schedule.ensures in
    record {
      some = omega arith;
      few = omega arith;
      most = began.most ∙ ap (λ (r : _). r.most) c.in_ok-reader.ensures;
      goes = began.goes;
      events = omega (arith, began.events);
      source_same = began.first;
      sink_same = refl;
      bench_later = c.begin.ensures.bench_later;
      source_tells = began.keeps_telling;
      sink_tells = λ tells. tells;
      bench_tells = c.begin.ensures.bench_tells;
      holds = began.holds;
      read = λ source_tells. read_first _ _ _ _ _ (rw (ap (λ (r : _). r.ahead) c.in_ok-reader.ensures) at (began.begins source_tells));
      going = λ source_tells sink_tells bench_tells.
          let begun = rw (ap (λ (r : _). r.ahead) c.in_ok-reader.ensures) at (began.begins source_tells) in
          going_first _ _ _ _ begun _ _ _ ((rw (ap (λ (r : _). r.ahead) c.in_ok-reader.ensures) at (began.led source_tells bench_tells)) begun.heading _ _ begun.in_place begun.begins);
    }

pub returns-in_err-line : goal.returns-in_err-line
returns-in_err-line g c =
    let p = err_from_is_err_and c.from_residual-in_err-line.result c.from_residual-in_err-line.ensures.1 in
    let was = c.lines.invariant in
    let why = c.in_err-line.ensures in
    let made = c.lines.schedule.cluster in
    record {
      leaves = λ source_tells.
          rw (p.1, p.2) (line_stops (Rose (g.B.Rack.faults c.args.bench.now) (g.B.Rack.faults c.lines.bench)) (g.K.Sink.tells c.args.out.now × g.B.Rack.tells c.args.bench.now) (IsShownBy (g.B.Rack.state c.lines.bench)) _
          (λ tells. heads (g.O.Made.Cluster.steps made) (g.O.Made.Cluster.at_once made) (g.met.O.Opens.acts made) (g.met.O.Opens.answers made) _ _ (g.met.O.Made.Cluster.accounts made (g.B.Rack.state c.lines.bench))) _ (snapshot_of g.O.Made.Shows.seen (place_of c.lines.schedule) (g.B.Rack.state c.lines.bench))
          c.in_err-line.field-0.0 _ _ _ _ _ _ c.lines.number _ _
          (was.read source_tells) (λ tells. was.going source_tells tells.0 tells.1) why.cause (why.gives (was.source_tells source_tells)));
      dropped = λ disk sector tells. rw p.1 tt;
      cause = rw (p.1, p.2) (line_cause (g.B.Rack.tells c.args.bench.now) c.in_err-line.field-0.0 (c.lines.number + 1) _ _ _ _ _ _ (rw was.source_same at why.cause));
      disk_when = rw (p.1, p.2) (λ is source_tells. absurd (line_no_disk c.in_err-line.field-0.0 _ _ _ why.cause (err_is _ _ _ refl is)));
      bench_later = was.bench_later;
      bench_tells = was.bench_tells;
      source_first = rw (p.1, p.2) (rw was.source_same at why.first);
      sink_first = unless_write c.from_residual-in_err-line.result was.sink_same;
      source_later = rises _ _ _ (same_least _ _ was.source_same) why.later;
      sink_later = same_least _ _ was.sink_same;
      source_tells = λ tells. why.keeps_telling (was.source_tells tells);
      sink_tells = was.sink_tells;
    }

pub step-requires : goal.step-requires
step-requires g c =
    let place = rw c.in-Some.is at c.in_ok-line.ensures.in_place in
    let was = c.lines.invariant in
    record {
      line = rw (behind c.lines.number was.some) at place;
      goes = was.goes;
      few = omega (arith, was.events, was.few);
    }

pub lines-preserved : goal.lines-preserved
lines-preserved g c =
    let was = c.lines.invariant in
    let read = c.in_ok-line.ensures in
    let stepped = c.in_ok-step.ensures in
    let few = rw c.in-Some.is at read.few in
    record {
      some = omega arith;
      few = few;
      most = read.most ∙ was.most;
      goes = stepped.goes;
      events = omega (arith, stepped.counted, was.events);
      source_same = read.first ∙ was.source_same;
      sink_same = stepped.first ∙ was.sink_same;
      bench_later = rises _ _ _ was.bench_later stepped.bench.later.all;
      source_tells = λ tells. read.keeps_telling (was.source_tells tells);
      sink_tells = λ tells. stepped.keeps_telling (was.sink_tells tells);
      bench_tells = λ tells. stepped.bench.tells (was.bench_tells tells);
      holds = λ tells.
          let held = was.holds tells in
          let now = stepped.leads held.0 held.1 (was.bench_tells tells) held.2 in
          (held.0, now.0, now.1);
      read = λ source_tells.
          let so_far = was.read source_tells in
          let count = so_far.count in
          let begins = rw c.in-Some.is at (read.gives (was.source_tells source_tells)) in
          read_one _ _ _ _ _ _ _ _ _ c.lines.number c.in-Some.line so_far begins (stepped.reaches _ so_far.done was.bench_later (omega (arith, count, few)) so_far.reached);
      going = λ source_tells sink_tells bench_tells.
          let so_far = was.going source_tells sink_tells bench_tells in
          let count = so_far.count in
          let begins = rw c.in-Some.is at (read.gives (was.source_tells source_tells)) in
          let does = stepped.does _ so_far.done _ (was.sink_tells sink_tells) (was.bench_tells bench_tells) was.bench_later (omega (arith, count, few)) so_far.reached so_far.stands in
          going_on _ _ _ (snapshot_of g.O.Made.Shows.seen (place_of c.lines.schedule) (g.B.Rack.state c.lines.bench)) _ _ c.lines.number _ _ so_far _ _ _ (snapshot_of g.O.Made.Shows.seen (place_of c.step.new.schedule) (g.B.Rack.state c.step.new.bench)) c.in-Some.line _ _ begins does.0 does.1;
    }

pub returns-in_err-step : goal.returns-in_err-step
returns-in_err-step g c =
    let p = err_from_is_err_and c.from_residual-in_err-step.result c.from_residual-in_err-step.ensures.1 in
    let was = c.lines.invariant in
    let read = c.in_ok-line.ensures in
    let why = c.in_err-step.ensures in
    let made = c.lines.schedule.cluster in
    let now = c.step.new.schedule.cluster in
    let stop = c.in_err-step.field-0.0 in
    let start = g.B.Rack.faults c.args.bench.now in
    let before = g.B.Rack.faults c.lines.bench in
    let after = g.B.Rack.faults c.step.new.bench in
    let later = rose_on start before after was.bench_later why.bench.later.all in
    record {
      leaves = λ source_tells.
          let few = rw c.in-Some.is at read.few in
          let begins = rw c.in-Some.is at (read.gives (was.source_tells source_tells)) in
          let place = rw c.in-Some.is at read.in_place in
          let so_far = was.read source_tells in
          rw (p.1, p.2) (step_stops (Rose start after) (g.K.Sink.tells c.args.out.now × g.B.Rack.tells c.args.bench.now) (IsShownBy (g.B.Rack.state c.step.new.bench)) _
          (λ tells. heads (g.O.Made.Cluster.steps made) (g.O.Made.Cluster.at_once made) (g.met.O.Opens.acts made) (g.met.O.Opens.answers made) _ _ (g.met.O.Made.Cluster.accounts made (g.B.Rack.state c.lines.bench))) _ (snapshot_of g.O.Made.Shows.seen (place_of c.lines.schedule) (g.B.Rack.state c.lines.bench))
          stop _ _ _ _ _ _ _ c.lines.number _ _ c.in-Some.line _
          (λ tells. heads (g.O.Made.Cluster.steps now) (g.O.Made.Cluster.at_once now) (g.met.O.Opens.acts now) (g.met.O.Opens.answers now) _ _ (g.met.O.Made.Cluster.accounts now (g.B.Rack.state c.step.new.bench))) _ (snapshot_of g.O.Made.Shows.seen (place_of c.step.new.schedule) (g.B.Rack.state c.step.new.bench))
          (read_later (Rose start before) (Rose start after) later _ _ _ _ _ so_far)
          (λ tells. going_later (Rose start before) (Rose start after) later _ _ _ _ _ _ _ _ (was.going source_tells tells.0 tells.1))
          (omega (arith, few)) begins (rw (behind c.lines.number was.some) at place) why.cause
          (refused_for_weaker (Rose start before) (Rose start after) later stop _ _ _ (why.refused start so_far.done was.bench_later so_far.reached))
          (λ tells.
          let going = was.going source_tells tells.0 tells.1 in
          refused_for_weaker (Rose start before) (Rose start after) later stop _ _ _ (why.refused start (lines_of going.done) was.bench_later going.reached))
          why.there
          (λ tells.
          let going = was.going source_tells tells.0 tells.1 in
          let count = going.count in
          why.does start going.done _ (was.sink_tells tells.0) (was.bench_tells tells.1) was.bench_later (omega (arith, count, few)) going.reached going.stands));
      dropped = λ disk sector tells. rw p.1 tt;
      cause = rw (p.1, p.2) (step_cause (g.B.Rack.tells c.args.bench.now) stop (c.lines.number + 1) _ _ _ _ _ _ (rw was.sink_same at why.cause));
      disk_when = rw (p.1, p.2) (λ is source_tells. absurd (step_no_disk stop _ _ _ why.cause (err_is _ _ _ refl is)));
      bench_later = rises _ _ _ was.bench_later why.bench.later.all;
      bench_tells = λ tells. why.bench.tells (was.bench_tells tells);
      source_first = unless_read c.from_residual-in_err-step.result (read.first ∙ was.source_same);
      sink_first = rw (p.1, p.2) (rw was.sink_same at why.first);
      source_later = rises _ _ _ (same_least _ _ was.source_same) read.later;
      sink_later = rises _ _ _ (same_least _ _ was.sink_same) why.later;
      source_tells = λ tells. read.keeps_telling (was.source_tells tells);
      sink_tells = λ tells. why.keeps_telling (was.sink_tells tells);
    }

pub returns : goal.returns
returns g c =
    let was = c.lines.invariant in
    let read = c.in_ok-line.ensures in
    let ended = c.finish.ensures in
    let made = c.lines.schedule.cluster in
    let start = g.B.Rack.faults c.args.bench.now in
    let before = g.B.Rack.faults c.lines.bench in
    let after = g.B.Rack.faults c.finish.new.bench in
    let later = rose_on start before after was.bench_later ended.bench_later in
    let disks = g.B.Rack.state c.lines.bench in
    let left = all_crashed disks Drop in
    let lacking = (place_of c.lines.schedule).lacking in
    record {
      leaves = λ source_tells.
          let ends = rw c.in_default.is at (read.gives (was.source_tells source_tells)) in
          let so_far = read_later (Rose start before) (Rose start after) later _ _ _ _ _ (rw ends.0 at (was.read source_tells)) in
          let going = λ (tells : g.K.Sink.tells c.args.out.now × g.B.Rack.tells c.args.bench.now).
          going_later (Rose start before) (Rose start after) later _ _ _ _ (g.O.Made.Cluster.led made disks) lacking _ _ (rw ends.0 at (was.going source_tells tells.0 tells.1)) in
          finish_leaves (Rose start after) (g.K.Sink.tells c.args.out.now × g.B.Rack.tells c.args.bench.now) (IsShownBy (g.B.Rack.state c.finish.new.bench)) _
          (λ tells. heads (g.O.Made.Cluster.steps made) (g.O.Made.Cluster.at_once made) (g.met.O.Opens.acts made) (g.met.O.Opens.answers made) _ _ (g.met.O.Made.Cluster.accounts made disks)) _ (snapshot_of g.O.Made.Shows.seen (place_of c.lines.schedule) (g.B.Rack.state c.lines.bench))
          left (set.contains lacking) _ _ _ c.lines.number so_far going c.finish.result _ _ _ _ _ _ _ ends.1 ended.cause
          (λ tells. elim (ended.crashed (was.bench_tells tells.1)) [
            | inl crashed ↦ inl (ending (g.O.Made.Cluster.steps made) (g.O.Made.Cluster.at_once made) (g.met.O.Opens.acts made) (g.met.O.Opens.answers made) (Rose start after) (going tells).done
                (of_lines _ _ _ _ _ _ _ _ _ (going tells)) lacking (going tells).stands.lacks left (g.met.O.Opens.closes made disks left _ _ (going tells).stands.led crashed) c.finish.result _ _
                (λ tree stands. ended.ends tree (was.sink_tells tells.0) (was.bench_tells tells.1) stands))
            | inr none ↦ inr none
          ])
          (λ tells. on_ok_weaker c.finish.result (λ drops tree points shown. rw drops (shown_by left (snapshot_of g.O.Made.Shows.seen (place_of c.lines.schedule) disks) (set.contains lacking) refl tree points shown)) (ended.drops (was.bench_tells tells.1)));
      dropped = λ disk sector tells. ended.dropped disk sector (was.bench_tells tells);
      cause = IfErr-weaker c.finish.result _ _
          (λ stop cause. finish_cause (g.B.Rack.tells c.args.bench.now) _ stop _ _ _ _ _ _ _ was.bench_later
          (λ tells.
          let held = was.holds tells in
          (was.bench_tells tells, λ rest crashed. (let closes = g.met.O.Opens.closes made disks rest held.0 held.1 held.2 crashed in (closes.next, closes.stands)))) cause) (rw was.sink_same at ended.cause);
      disk_when = λ is source_tells.
          let ends = rw c.in_default.is at (read.gives (was.source_tells source_tells)) in
          inr (all_read _ _ _ _ c.lines.number (read_later (Rose start before) (Rose start after) later _ _ _ _ _ (rw ends.0 at (was.read source_tells))), ends.1);
      bench_later = rises _ _ _ was.bench_later ended.bench_later;
      bench_tells = λ tells. ended.bench_tells (was.bench_tells tells);
      source_first = unless_read c.finish.result (read.first ∙ was.source_same);
      sink_first = rw was.sink_same at ended.first;
      source_later = rises _ _ _ (same_least _ _ was.source_same) read.later;
      sink_later = rises _ _ _ (same_least _ _ was.sink_same) ended.later;
      source_tells = λ tells. read.keeps_telling (was.source_tells tells);
      sink_tells = λ tells. ended.keeps_telling (was.sink_tells tells);
    }

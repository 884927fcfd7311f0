use Rattle.std.proofs.Common.{refl}
use Rattle.std.proofs.lemmas.Result.{err_from_is_err_and}
use Rattle.bx_schedule.specs.Places.{cleared, place_of}
use Rattle.bx_schedule.specs.Placing.{lines_of}
use Rattle.bx_replay.proofs.Doing.{LineLaws, reaches, stands_all, stands_part}
use Rattle.bx_replay.proofs.Stepping.{refuses, refuses_there}
use Rattle.bx_replay.proofs.steps.step.Goals as goal

pub returns-in-Err-clause-refused : goal.returns-in-Err-clause-refused
returns-in-Err-clause-refused g c = λ start done first reached.
    rw c.stop_of.ensures (refuses g.C.Shows.seen g.C.Cluster.led g.B.Rack c.first_cause_is_told.ensures.told c.args.at.line.now c.in-Err.error (cleared (place_of c.args.schedule.now)) (place_of c.step.new.self) c.args.bench.now c.step.new.rack
    c.in-Err.ensures.ends.refused _ done c.args.at.number reached)

pub returns-in-Err-clause-there : goal.returns-in-Err-clause-there
returns-in-Err-clause-there g c =
    rw c.stop_of.ensures (refuses_there g.C.Shows.seen g.C.Cluster.led g.B.Rack c.args.at.line.now c.args.at.number c.in-Err.error (cleared (place_of c.args.schedule.now)) (place_of c.step.new.self) c.args.bench.now c.step.new.rack
    c.in-Err.ensures.ends.refused (g.B.Rack.state c.args.bench.now))

pub returns-in_err-write_all-clause-does : goal.returns-in_err-write_all-clause-does
returns-in_err-write_all-clause-does g c = λ start done begun sink_tells bench_tells first few reached stands.
    let p = err_from_is_err_and c.from_residual.result c.from_residual.ensures.1 in
    let laws : LineLaws = record { parts = c.lines_are_placed.ensures.parts; nodes = c.lines_are_placed.ensures.nodes; many = c.lines_are_placed.ensures.many; least = c.down_by_lines.ensures.least; most = c.down_by_lines.ensures.most; apart = c.parts_stand_apart.ensures } in
    let part = c.in_err-write_all.ensures.part sink_tells in
    let reaching = reaches g.C.Shows.seen g.C.Cluster.led g.B.Rack laws c.first_cause_is_told.ensures.none c.args.at.line.now (cleared (place_of c.args.schedule.now)) (place_of c.step.new.self) c.args.bench.now c.step.new.rack
    c.in_default.ensures.ends.done c.requires.line start first (lines_of done) few reached in
    let standing = stands_part g.C.Shows.seen g.C.Cluster.led g.B.Rack laws c.first_cause_is_told.ensures.none c.args.at.line.now (cleared (place_of c.args.schedule.now)) (place_of c.step.new.self) c.args.bench.now c.step.new.rack
    c.in_default.ensures.ends.done c.requires.line start first done reached begun (g.K.Sink.written c.args.out.now) bench_tells stands refl (g.K.Sink.written c.write_all.new.sink) part.0 (rw c.text.ensures at part.2) in
    rw (p.1, p.2) (standing.0, standing.1, standing.2, (reaching, standing.3))

pub returns-clause-reaches : goal.returns-clause-reaches
returns-clause-reaches g c = λ start done first few reached.
    let laws : LineLaws = record { parts = c.lines_are_placed.ensures.parts; nodes = c.lines_are_placed.ensures.nodes; many = c.lines_are_placed.ensures.many; least = c.down_by_lines.ensures.least; most = c.down_by_lines.ensures.most; apart = c.parts_stand_apart.ensures } in
    reaches g.C.Shows.seen g.C.Cluster.led g.B.Rack laws c.first_cause_is_told.ensures.none c.args.at.line.now (cleared (place_of c.args.schedule.now)) (place_of c.step.new.self) c.args.bench.now c.step.new.rack
    c.in_default.ensures.ends.done c.requires.line start first done few reached

pub returns-clause-does : goal.returns-clause-does
returns-clause-does g c = λ start done begun sink_tells bench_tells first few reached stands.
    let laws : LineLaws = record { parts = c.lines_are_placed.ensures.parts; nodes = c.lines_are_placed.ensures.nodes; many = c.lines_are_placed.ensures.many; least = c.down_by_lines.ensures.least; most = c.down_by_lines.ensures.most; apart = c.parts_stand_apart.ensures } in (
      reaches g.C.Shows.seen g.C.Cluster.led g.B.Rack laws c.first_cause_is_told.ensures.none c.args.at.line.now (cleared (place_of c.args.schedule.now)) (place_of c.step.new.self) c.args.bench.now c.step.new.rack
          c.in_default.ensures.ends.done c.requires.line start first (lines_of done) few reached,
      stands_all g.C.Shows.seen g.C.Cluster.led g.B.Rack laws c.first_cause_is_told.ensures.none c.args.at.line.now (cleared (place_of c.args.schedule.now)) (place_of c.step.new.self) c.args.bench.now c.step.new.rack
          c.in_default.ensures.ends.done c.requires.line start first done reached begun (g.K.Sink.written c.args.out.now) bench_tells stands refl (g.K.Sink.written c.write_all.new.sink) (rw c.text.ensures at (c.in_ok-write_all.ensures.ok sink_tells)),
    )

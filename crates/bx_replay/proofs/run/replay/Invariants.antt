use Rattle.std.proofs.Common.{◌≡◌, ◌*◌, ◌≤◌, ◌<◌, ◌-◌, ◌++◌, List}
use Rattle.bx_base.specs.Faults.{Rose}
use Rattle.bx_history.specs.Parts.{Part}
use Rattle.bx_model.specs.declared.tree.Tree.{Tree}
use Rattle.bx_schedule.specs.Execution.{snapshot_of}
use Rattle.bx_schedule.specs.Places.{CanGo, place_of}
use Rattle.bx_replay.specs.Replay.{Going, IsRead}
use Rattle.bx_replay.proofs.run.replay.Given as goal

abbrev pub invariant-lines : goal.invariant-lines
invariant-lines g l = record {
  some : 0 < l.number;
  few : l.number ≤ 4294967295;
  most : l.reader.most ≡ 18600;
  goes : CanGo g.O.Made.Shows.seen g.O.Made.Cluster.room g.B.Rack (place_of l.schedule) l.bench;
  events : g.O.Made.Cluster.events l.schedule.cluster ≤ 20 * l.number;
  source_same : g.S.Source.faults l.input ≡ g.S.Source.faults l.fn.input;
  sink_same : g.K.Sink.faults l.out ≡ g.K.Sink.faults l.fn.out;
  bench_later : g.B.Rack.faults l.fn.bench ≤ g.B.Rack.faults l.bench;
  source_tells : g.S.Source.tells l.fn.input → g.S.Source.tells l.input;
  sink_tells : g.K.Sink.tells l.fn.out → g.K.Sink.tells l.out;
  bench_tells : g.B.Rack.tells l.fn.bench → g.B.Rack.tells l.bench;
  holds : g.B.Rack.tells l.fn.bench → (tree : Tree) × (parts : List Part) × g.O.Made.Cluster.led l.schedule.cluster (g.B.Rack.state l.bench) tree parts;
  read : g.S.Source.tells l.fn.input → IsRead (Rose (g.B.Rack.faults l.fn.bench) (g.B.Rack.faults l.bench)) (g.O.Made.Shows.seen l.schedule.cluster) (place_of l.schedule).clock
      (g.S.Source.left l.fn.input) (l.reader.ahead ++ g.S.Source.left l.input) l.number;
  going : g.S.Source.tells l.fn.input → g.K.Sink.tells l.fn.out → g.B.Rack.tells l.fn.bench
      → Going (Rose (g.B.Rack.faults l.fn.bench) (g.B.Rack.faults l.bench)) (g.O.Made.Cluster.led l.schedule.cluster (g.B.Rack.state l.bench)) (place_of l.schedule).lacking (snapshot_of g.O.Made.Shows.seen (place_of l.schedule) (g.B.Rack.state l.bench))
      (g.S.Source.left l.fn.input) (l.reader.ahead ++ g.S.Source.left l.input) l.number (g.K.Sink.written l.fn.out) (g.K.Sink.written l.out);
}

abbrev pub decreases-lines : goal.decreases-lines
decreases-lines g l = 4294967296 - l.number

use Rattle.std.proofs.Common.{◌≡◌, ◌≤◌, ℕ, ◌++◌, length, take, drop}
use Rattle.bx_outside.proofs.sink.write_all.Given as goal

abbrev pub invariant-loop-rest : goal.invariant-loop-rest
invariant-loop-rest g l = record {
  done : (n : ℕ) × (n ≤ length l.fn.piece) × (l.rest ≡ drop n l.fn.piece) × (g.K.Sink.tells l.fn.sink → g.K.Sink.written l.sink ≡ g.K.Sink.written l.fn.sink ++ take n l.fn.piece);
  same : g.K.Sink.faults l.sink ≡ g.K.Sink.faults l.fn.sink;
  tells : g.K.Sink.tells l.fn.sink → g.K.Sink.tells l.sink;
}

abbrev pub decreases-loop-rest : goal.decreases-loop-rest
decreases-loop-rest g l = length l.rest

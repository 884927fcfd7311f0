use Rattle.std.proofs.Common.{◌≡◌, ◌-◌}
use Rattle.bx_base.specs.Reading.{list_at}
use Rattle.bx_base.proofs.Lists.{with_front}
use Rattle.bx_mirror_packets.specs.Reading.{run_at}
use Rattle.bx_mirror_packets.proofs.runs.counted_runs.Given as goal

abbrev pub invariant-loop : goal.invariant-loop
invariant-loop l = record {
  value : with_front l.runs.1 (list_at (l.count - l.counter) (run_at l.device) l.rest) ≡ list_at l.count (run_at l.device) l.bytes;
  kind : l.runs.0 ≡ l.fn.none.0;
}

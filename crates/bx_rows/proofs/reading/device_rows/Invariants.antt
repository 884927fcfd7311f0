use Rattle.std.proofs.Common.{◌≡◌, ◌-◌}
use Rattle.bx_base.specs.Reading.{list_at}
use Rattle.bx_rows.specs.Reading.{device_at}
use Rattle.bx_base.proofs.Lists.{with_front}
use Rattle.bx_rows.proofs.reading.device_rows.Given as goal

abbrev pub invariant-loop : goal.invariant-loop
invariant-loop l = with_front l.rows (list_at (l.count - l.counter) device_at l.rest) ≡ list_at l.count device_at l.bytes

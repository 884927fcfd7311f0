use Rattle.std.proofs.Common.{◌≡◌, ◌-◌}
use Rattle.bx_base.specs.Reading.{list_at}
use Rattle.bx_rows.specs.Reading.{session_at}
use Rattle.bx_base.proofs.Lists.{with_front}
use Rattle.bx_rows.proofs.reading.session_rows.Given as goal

abbrev pub invariant-loop : goal.invariant-loop
invariant-loop l = with_front l.rows (list_at (l.count - l.counter) session_at l.rest) ≡ list_at l.count session_at l.bytes

use Rattle.std.proofs.Common.{◌≡◌, ◌-◌}
use Rattle.bx_base.specs.Reading.{list_at}
use Rattle.bx_base.proofs.Lists.{with_front}
use Rattle.bx_page.specs.Reading.{entry_at}
use Rattle.bx_page.proofs.reading.entries_of.Given as goal

abbrev pub invariant-loop : goal.invariant-loop
invariant-loop l = with_front l.entries.items (list_at (l.count - l.counter) entry_at l.rest) ≡ list_at l.count entry_at l.bytes

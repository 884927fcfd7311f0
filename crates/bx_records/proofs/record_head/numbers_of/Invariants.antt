use Rattle.std.proofs.Common.{◌≡◌, ◌-◌}
use Rattle.bx_layout.specs.bx_base.specs.Reading.{list_at}
use Rattle.bx_records.specs.RecordReading.{number_of_block_at}
use Rattle.bx_layout.specs.bx_base.proofs.Lists.{with_front}
use Rattle.bx_records.proofs.record_head.numbers_of.Given as goal

abbrev pub invariant-loop : goal.invariant-loop
invariant-loop l = with_front l.found (list_at (l.count - l.counter) number_of_block_at l.rest) ≡ list_at l.count number_of_block_at l.bytes

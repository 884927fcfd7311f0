use Rattle.std.proofs.Common.{take}
use Rattle.std.specs.List.{flat_map}
use Rattle.std.specs.Int.{w64, to_be_bytes}
use Rattle.bx_layout.specs.bx_base.specs.Writing.{Writes}
use Rattle.bx_records.proofs.numbers.put_numbers.Given as goal

abbrev pub invariant-loop-number : goal.invariant-loop-number
invariant-loop-number l = Writes l.fn.into l.into l.at l.end (flat_map (to_be_bytes w64) (take l.number-index l.numbers))

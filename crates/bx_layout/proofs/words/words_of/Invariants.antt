use Rattle.std.proofs.Common.{◌≡◌, ◌-◌}
use Rattle.std.specs.Int.{w32}
use Rattle.bx_base.specs.Reading.{number_at, list_at}
use Rattle.bx_base.proofs.Lists.{with_front}
use Rattle.bx_layout.proofs.words.words_of.Given as goal

abbrev pub invariant-loop : goal.invariant-loop
invariant-loop l = with_front l.found (list_at (l.count - l.counter) (number_at w32) l.rest) ≡ list_at l.count (number_at w32) l.bytes

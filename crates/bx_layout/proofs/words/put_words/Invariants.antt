use Rattle.std.proofs.Common.{take}
use Rattle.bx_base.specs.Bytes.{words}
use Rattle.bx_base.specs.Writing.{Writes}
use Rattle.bx_layout.proofs.words.put_words.Given as goal

abbrev pub invariant-loop-number : goal.invariant-loop-number
invariant-loop-number l = Writes l.fn.into l.into l.at l.end (words (take l.number-index l.numbers))

use Rattle.std.proofs.Common.{◌≡◌, ◌++◌, take}
use Rattle.bx_base.specs.Bytes.{words}
use Rattle.bx_xdr.proofs.writer.Writer.put_words.Given as goal

abbrev pub invariant-loop-number : goal.invariant-loop-number
invariant-loop-number l = l.self ≡ l.initial.self ++ words (take l.number-index l.numbers)

use Rattle.std.proofs.Common.{take, arith}
use Rattle.std.proofs.lemmas.List.{length-take}
use Rattle.bx_layout.proofs.Lengths.{length-words}
use Rattle.bx_layout.proofs.words.put_words.Goals as goal

pub put_u32-end-requires : goal.put_u32-end-requires
put_u32-end-requires c =
    let i = c.loop-number.number-index in
    omega (arith, length-words (take i c.args.numbers.now), length-take i c.args.numbers.now, c.loop-number.invariant.place, c.loop-number.invariant.len, c.loop-number-test.true, c.requires)

use Rattle.std.proofs.Common.{take, arith}
use Rattle.std.proofs.lemmas.List.{length-take}
use Rattle.bx_records.proofs.Lengths.{length-numbers}
use Rattle.bx_records.proofs.numbers.put_numbers.Goals as goal

pub put_u64-end-requires : goal.put_u64-end-requires
put_u64-end-requires c =
    let i = c.loop-number.number-index in
    omega (arith, length-numbers (take i c.args.numbers.now), length-take i c.args.numbers.now, c.loop-number.invariant.place, c.loop-number.invariant.len, c.loop-number-test.true, c.requires)

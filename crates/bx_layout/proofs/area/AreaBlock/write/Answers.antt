use Rattle.std.proofs.Common.{ap, length, arith}
use Rattle.bx_layout.proofs.Lengths.{length-words}
use Rattle.bx_layout.proofs.area.AreaBlock.write.Goals as goal

pub put-at-requires : goal.put-at-requires
put-at-requires c =
    omega (arith, c.put_words-at.ensures.place, c.put_words-at.ensures.len, length-words c.items.result.now, ap length c.items.ensures, ap length c.bytes.ensures, c.requires.area.words, c.requires.area.dead, c.requires.size)

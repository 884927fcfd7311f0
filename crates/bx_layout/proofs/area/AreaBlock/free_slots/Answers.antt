use Rattle.std.proofs.Common.{take, arith}
use Rattle.std.proofs.lemmas.List.{length-take}
use Rattle.std.proofs.lemmas.List.Sums.{count_by-le-length}
use Rattle.bx_layout.specs.Areas.{is_free}
use Rattle.bx_layout.proofs.area.AreaBlock.free_slots.Goals as goal

pub overflow_add-count : goal.overflow_add-count
overflow_add-count c =
    let i = c.loop-word.word-index in
    omega (arith, count_by-le-length is_free (take i c.args.self.now.words), length-take i c.args.self.now.words, c.requires.words, c.loop-word.invariant)

use Rattle.std.proofs.Common.{◌≡◌, take, count_by}
use Rattle.bx_layout.specs.Areas.{is_free}
use Rattle.bx_layout.proofs.area.AreaBlock.free_slots.Given as goal

abbrev pub invariant-loop-word : goal.invariant-loop-word
invariant-loop-word l = l.count ≡ count_by is_free (take l.word-index l.self.words)

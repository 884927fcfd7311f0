use Rattle.std.proofs.Common.{◌≡◌, ℕ, ◌<◌, false}
use Rattle.std.specs.Prelude.{slice_index}
use Rattle.bx_layout.specs.Areas.{is_free}
use Rattle.bx_layout.proofs.area.AreaBlock.lowest_free.Given as goal

abbrev pub invariant-loop-slot : goal.invariant-loop-slot
invariant-loop-slot l = (lower : ℕ) → lower < l.slot → is_free (slice_index l.self.words lower) ≡ false

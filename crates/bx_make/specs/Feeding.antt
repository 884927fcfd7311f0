-- The text of a generated schedule, as it is read.
use Rattle.std.specs.Prelude.{ℕ, zero, suc, ◌+◌, ◌-◌, List, [], ◌++◌}
use Rattle.bx_generated.specs.Progress.{Progress}
use Rattle.bx_generated.specs.Schedules.{lines_behind, text_of_lines}

-- the text of the next so many calls
unfoldable pub text_of_next : Progress → ℕ → List ℕ
text_of_next progress zero = []
text_of_next progress (suc n) =
    text_of_lines (lines_behind progress.seed progress.nodes progress.calls progress.made) ++ text_of_next (record progress { made = progress.made + 1 }) n

-- the text of the calls that aren't made
abbrev pub text_left : Progress → List ℕ
text_left progress = text_of_next progress (progress.calls - progress.made)

-- the bytes that were made and not read, those that aren't made, and how often there was no memory to make more
pub record Feeding : Type 0 where
  pub ahead : List ℕ
  pub behind : List ℕ
  pub faults : ℕ

-- What becomes of a cell.
use Rattle.std.specs.Prelude.{◌≡◌, ℕ, Bool, true, false, List}
use Rattle.bx_cell.specs.Cells.{Known, with_value}

-- The cell is as it was, or has this value where it is to change.
abbrev pub IsSaved : Bool → Known → List ℕ → Known → Type 0
IsSaved true old value new = new ≡ with_value old value
IsSaved false old value new = new ≡ old

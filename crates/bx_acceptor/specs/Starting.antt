-- What an acceptor begins with that starts.
use Rattle.std.specs.Prelude.{◌≡◌, ℕ, ◌⊎◌, true, List, length, Option, Some, None, IfSome}
use Rattle.bx_cell.specs.Cells.{Known}
use Rattle.bx_cell.specs.Halves.{Found}
use Rattle.bx_global.specs.declared.held.Held.{Held}
use Rattle.bx_global.specs.declared.state.GlobalState.{GlobalState}
use Rattle.bx_global.specs.Bytes.{IsHeld, held_text}
use Rattle.bx_acceptor.specs.declared.origin.Origin.{Origin}
use Rattle.bx_answers.specs.Handling.{first_held}
use Rattle.bx_acceptor.specs.Standing.{CatchesUp, IsCellOf, IsFound, TakesPart, cell_with}

-- the cell is on the disk of the replica, behind its label, may be put, and has this
pub record IsCellAt (replica : ℕ) (raw : Held) (cell : Known) : Type 0 where
  pub disk : cell.disk ≡ replica
  pub base : cell.base ≡ 1
  pub ready : cell.ready ≡ true
  pub content : cell.found.value ≡ held_text raw

-- what is held of a cell that was found: nothing, where the replica takes no part
abbrev pub HoldsOf : GlobalState → Origin → Option (Known × Held) → Held × Option Known → Type 0
HoldsOf first origin None x = (x.0 ≡ first_held first) × (x.1 ≡ None)
HoldsOf first origin (Some y) x =
    (TakesPart origin y.0.found.number × CatchesUp origin first y.0.found.number y.1 x.0 × (x.1 ≡ Some y.0))
    ⊎ ((TakesPart origin y.0.found.number → ⊥) × (x.0 ≡ first_held first) × (x.1 ≡ None))

-- What it holds, and its cell: where it takes part and its disk has one that can be read, that one, and what it has, which catches up where
-- the cell stands as it was found; else none, and the first state.
pub record StartsWith (replica : ℕ) (first : GlobalState) (origin : Origin) (sectors : ℕ → List ℕ) (held : Held) (cell : Option Known) : Type 0 where
  pub found : (found : Found) (raw : Held) → TakesPart origin found.number → IsFound (length first.devices) sectors found raw → CatchesUp origin first found.number raw held × (cell ≡ Some (cell_with replica found))
  pub none : ((found : Found) (raw : Held) → TakesPart origin found.number → IsFound (length first.devices) sectors found raw → ⊥) → (held ≡ first_held first) × (cell ≡ None)

-- how an acceptor stands with them
pub record StandsSo (replica : ℕ) (first : GlobalState) (origin : Origin) (held : Held) (cell : Option Known) : Type 0 where
  pub held_is : IsHeld (length first.devices) held
  pub cell_is : IfSome cell (IsCellOf replica first origin held)

-- Which blocks a node is asked to give back.
use Rattle.std.specs.Prelude.{◌≡◌, ℕ, zero, suc, ◌+◌, Bool, true, false, ◌==◌, ◌&&◌, if◌then◌else◌, List, [], ◌∷◌, ◌++◌, Option, Some, None}
use Rattle.bx_base.specs.declared.names.Mode.{Mode}
use Rattle.bx_base.specs.declared.names.Mode.TheVariants.{Shared, Exclusive}
use Rattle.bx_facts.specs.Holds.{Hold}
use Rattle.bx_plain.specs.declared.rows.Row.{Row}
use Rattle.bx_plain.specs.Rows.{hold_in, rows_but}

-- whether a hold stands against a want
abbrev pub conflicts : Option Hold → Mode → Bool
conflicts None mode = false
conflicts (Some (Exclusive, index)) mode = true
conflicts (Some (Shared, index)) Exclusive = true
conflicts (Some (Shared, index)) Shared = false

-- whether a session wants the block of a row, against a hold of it
abbrev pub is_asked : (ℕ → Option Hold) → ℕ → Row → Bool
is_asked held by row = (row.session == by) && row.is_wanted && conflicts (held row.block) row.mode

-- the blocks that a session asks for, of one that holds these
abbrev pub asked_by : (ℕ → Option Hold) → ℕ → List Row → List (ℕ × ℕ)
asked_by held by [] = []
asked_by held by (row ∷ rows) = if is_asked held by row then (row.block, by) ∷ asked_by held by rows else asked_by held by rows

-- those that another session asks for
abbrev pub asked_of : (ℕ → Option Hold) → ℕ → ℕ → List Row → List (ℕ × ℕ)
asked_of held session by rows = if by == session then [] else asked_by held by rows

-- those that so many sessions ask for, from one on
abbrev pub asks_from : (ℕ → Option Hold) → ℕ → List Row → ℕ → ℕ → List (ℕ × ℕ)
asks_from held session rows by zero = []
asks_from held session rows by (suc count) = asked_of held session by rows ++ asks_from held session rows (by + 1) count

-- rows are as they were but for those of one block
abbrev pub AlikeBut : ℕ → List Row → List Row → Type 0
AlikeBut block old new = rows_but block new ≡ rows_but block old

-- what a node is asked for, by its session
abbrev pub asks_of : Option ℕ → List Row → ℕ → List (ℕ × ℕ)
asks_of None rows nodes = []
asks_of (Some session) rows nodes = asks_from (hold_in rows session) session rows 1 nodes

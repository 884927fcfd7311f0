-- What is read off the rows of a state.
use Rattle.std.specs.Prelude.{◌≡◌, ℕ, Bool, not, ◌==◌, List, [], ◌∷◌, Option, find, unwrap_or, IsSomeAnd}
use Rattle.std.specs.List.{list_any}
use Rattle.bx_rows.specs.declared.session.SessionRow.{SessionRow}
use Rattle.bx_rows.specs.Rows.{is_of}

-- the row of a session
abbrev pub row_in : List SessionRow → ℕ → Option SessionRow
row_in rows session = find (λ row. row.number == session) rows

-- the live row of a node and boot
abbrev pub live_in : List SessionRow → ℕ → ℕ → Option SessionRow
live_in rows node boot = find (is_of node boot) rows

-- a session has a row that isn't dead
abbrev pub IsLive : List SessionRow → ℕ → Type 0
IsLive rows session = IsSomeAnd (row_in rows session) (λ row. row.dead ≡ 0)

-- whether a slot has a row
abbrev pub is_taken : List SessionRow → ℕ → Bool
is_taken rows slot = list_any (λ row. row.slot == slot) rows

-- the slots
abbrev pub slots : List ℕ
slots = 0 ∷ 1 ∷ 2 ∷ 3 ∷ 4 ∷ 5 ∷ 6 ∷ 7 ∷ []

-- the least slot without a row; 8 where each has one
abbrev pub least_free : List SessionRow → ℕ
least_free rows = unwrap_or (find (λ slot. not (is_taken rows slot)) slots) 8

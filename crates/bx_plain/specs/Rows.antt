-- Rows of holds and wants, in the order of their blocks: at most one counts for a session and a block, the first.
use Rattle.std.specs.Prelude.{◌≡◌, ◌≢◌, ℕ, suc, ◌⊎◌, max, ltb, Bool, false, not, ◌==◌, ◌&&◌, ◌||◌, if◌then◌else◌, List, [], ◌∷◌, map, filter, Option, Some, None, option_map}
use Rattle.bx_base.specs.declared.names.Mode.{Mode}
use Rattle.bx_base.specs.declared.names.Mode.TheVariants.{Shared}
use Rattle.bx_facts.specs.Holds.{Hold}
use Rattle.bx_plain.specs.declared.rows.Row.{Row}

abbrev pub is_row : ℕ → ℕ → Row → Bool
is_row session block row = (row.session == session) && (row.block == block)

-- what a row holds
abbrev pub hold_of_row : Row → Option Hold
hold_of_row row = if row.is_held then Some (row.mode, row.index) else None

abbrev pub want_of_row : Row → Option Mode
want_of_row row = if row.is_wanted then Some row.mode else None

abbrev pub hold_in : List Row → ℕ → ℕ → Option Hold
hold_in [] session block = None
hold_in (row ∷ rows) session block = if is_row session block row then hold_of_row row else hold_in rows session block

abbrev pub want_in : List Row → ℕ → ℕ → Option Mode
want_in [] session block = None
want_in (row ∷ rows) session block = if is_row session block row then want_of_row row else want_in rows session block

abbrev pub place_in : List Row → ℕ → ℕ → Option ℕ
place_in [] session block = None
place_in (row ∷ rows) session block = if is_row session block row then Some 0 else option_map suc (place_in rows session block)

-- the greatest index with which the block was given up
abbrev pub floor_in : List Row → ℕ → ℕ
floor_in [] block = 0
floor_in (row ∷ rows) block = max (if row.block == block then row.given else 0) (floor_in rows block)

-- a row stands in a session's way: its block is held, or a lower session waits for it
abbrev pub is_before : ℕ → Row → Bool
is_before session row = row.is_held || (row.is_wanted && ltb row.session session)

-- a row lets a session hold the block so
abbrev pub Lets : ℕ → ℕ → Mode → Row → Type 0
Lets session block mode row = (is_before session row ≡ false) ⊎ (row.session ≡ session) ⊎ (row.block ≢ block) ⊎ ((row.mode ≡ Shared) × (mode ≡ Shared))

abbrev pub AllLet : ℕ → ℕ → Mode → List Row → Type 0
AllLet session block mode [] = Unit {0}
AllLet session block mode (row ∷ rows) = Lets session block mode row × AllLet session block mode rows

-- a row that stands for nothing yet
abbrev pub idle : ℕ → ℕ → Row
idle session block = record { session = session; block = block; mode = Shared; index = 0; is_held = false; is_wanted = false; given = 0 }

-- the row of a session and a block
abbrev pub lock_row : List Row → ℕ → ℕ → Row
lock_row [] session block = idle session block
lock_row (row ∷ rows) session block = if is_row session block row then row else lock_row rows session block

-- the rows with one put in the place of that of its session and block, or behind those of its block, before any of a higher one
abbrev pub with_row : List Row → Row → List Row
with_row [] new = new ∷ []
with_row (row ∷ rows) new = if is_row new.session new.block row then new ∷ rows else if ltb new.block row.block then new ∷ row ∷ rows else row ∷ with_row rows new

-- the rows of a block
abbrev pub rows_at : ℕ → List Row → List Row
rows_at block rows = filter (λ row. row.block == block) rows

-- those of all others
abbrev pub rows_but : ℕ → List Row → List Row
rows_but block rows = filter (λ row. not (row.block == block)) rows

-- the sessions that have rows of a block
abbrev pub sessions_at : ℕ → List Row → List ℕ
sessions_at block rows = map (λ row. row.session) (rows_at block rows)

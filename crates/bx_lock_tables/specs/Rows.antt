-- What was granted of a block, and what becomes of a want.
use Rattle.std.specs.Prelude.{ℕ, ltb, nat_le, ◌==◌, ◌&&◌, ◌||◌, not, Bool, true, false, find, List, Option, Some, None, if◌then◌else◌}
use Rattle.std.specs.List.{list_any}
use Rattle.bx_base.specs.declared.names.Mode.{Mode}
use Rattle.bx_base.specs.declared.names.Mode.TheVariants.{Shared, Exclusive}
use Rattle.bx_global.specs.declared.state.GlobalState.{GlobalState}
use Rattle.bx_rows.specs.declared.session.SessionRow.{SessionRow}
use Rattle.bx_rows.specs.Words.{row_in}
use Rattle.bx_lock_words.specs.declared.words.Want.{Want}
use Rattle.bx_lock_tables.specs.declared.rows.Row.{Row}
use Rattle.bx_lock_tables.specs.declared.verdict.Verdict.{Verdict}
use Rattle.bx_lock_tables.specs.declared.verdict.Verdict.TheVariants.{Refuses, Waits, Grants}

abbrev pub row_of : List Row → ℕ → Option Row
row_of rows session = find (λ row. row.session == session) rows

-- two sessions can't have a block so
abbrev pub clashing : Mode → Mode → Bool
clashing Exclusive other = true
clashing Shared Exclusive = true
clashing Shared Shared = false

abbrev pub clashes : ℕ → Mode → Row → Bool
clashes session mode row = (row.stands && not (row.session == session)) && clashing mode row.mode

abbrev pub has_clash : List Row → ℕ → Mode → Bool
has_clash rows session mode = list_any (clashes session mode) rows

-- a session lives in a state
abbrev pub is_alive : Option SessionRow → Bool
is_alive None = false
is_alive (Some row) = row.dead == 0

abbrev pub lives : GlobalState → ℕ → Bool
lives known session = is_alive (row_in known.sessions session)

-- a dead session has the block
abbrev pub dead_has : GlobalState → List Row → Bool
dead_has known rows = list_any (λ row. row.stands && not (lives known row.session)) rows

-- a session up to this one has a row
abbrev pub has_up_to : GlobalState → ℕ → Bool
has_up_to known last = list_any (λ row. nat_le row.number last) known.sessions

-- A session of an earlier term still has a row: it has every block. Those are the sessions up to the last one that was dead when the
-- server came to know of the term.
abbrev pub has_earlier : GlobalState → Option ℕ → Bool
has_earlier known None = false
has_earlier known (Some last) = has_up_to known last

-- the number of what stands
abbrev pub is_again : Option Row → Want → Bool
is_again None w = false
is_again (Some row) w = row.stands && (row.number == w.number)

-- a number that isn't above the last one that was granted
abbrev pub is_old : Option Row → Want → Bool
is_old None w = w.number == 0
is_old (Some row) w = not (ltb row.number w.number)

-- What a session has exclusively by an older request it gets exclusively, since the index of its release isn't known yet.
abbrev pub kept_mode : Mode → Mode → Mode
kept_mode Exclusive mode = Exclusive
kept_mode Shared mode = mode

abbrev pub mode_for : Option Row → Mode → Mode
mode_for None mode = mode
mode_for (Some row) mode = if row.stands then kept_mode row.mode mode else mode

abbrev pub listed_for : Option Row → ℕ → Want → Row
listed_for row index w = record { session = w.session; mode = mode_for row w.mode; number = w.number; index = index; stands = true }

-- what is listed by a grant: what stands already, or a new row
abbrev pub granted_row : Option Row → ℕ → Want → Row
granted_row None index w = listed_for None index w
granted_row (Some row) index w = if is_again (Some row) w then row else listed_for (Some row) index w

-- whether a want is to wait
abbrev pub stands_up : GlobalState → Option ℕ → List Row → Want → Bool
stands_up known last_dead rows w = (has_clash rows w.session w.mode || dead_has known rows) || has_earlier known last_dead

-- What becomes of a want: the one place that says when it isn't granted.
abbrev pub verdict_of : GlobalState → Option ℕ → ℕ → ℕ → List Row → Want → Verdict
verdict_of known last_dead index reading rows w =
    if not (lives known w.session) then Refuses
    else if is_old (row_of rows w.session) w && not (is_again (row_of rows w.session) w) then Refuses
    else if stands_up known last_dead rows w then Waits
    else if ltb known.term_end reading then Refuses
    else Grants (granted_row (row_of rows w.session) index w)

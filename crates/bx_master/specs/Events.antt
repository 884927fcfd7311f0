-- What a lock server does with what it hears, and at a tick: each step as a function, so that what is answered is said both ways.
use Rattle.std.specs.Prelude.{ℕ, ◌+◌, ltb, ◌==◌, ◌&&◌, not, min, max, flat_map, Bool, true, false, List, [], ◌∷◌, Option, Some, None, if◌then◌else◌}
use Rattle.bx_global.specs.declared.change.Change.{Change}
use Rattle.bx_global.specs.declared.change.Change.TheVariants as changes
use Rattle.bx_global.specs.declared.state.GlobalState.{GlobalState}
use Rattle.bx_rows.specs.declared.session.SessionRow.{SessionRow}
use Rattle.bx_rows.specs.Words.{row_in as session_row}
use Rattle.bx_lock_words.specs.declared.words.Grant.{Grant}
use Rattle.bx_lock_words.specs.declared.words.Release.{Release}
use Rattle.bx_lock_words.specs.declared.words.Want.{Want}
use Rattle.bx_lock_words.specs.declared.words.Word.{Word}
use Rattle.bx_lock_words.specs.declared.words.Word.TheVariants.{Wants, Grants, Revokes, Releases, Renews, Leases}
use Rattle.bx_lock_tables.specs.Accounts.{end_in, expires_in, listed, marked, noting as noting_end, row_for, rows_at}
use Rattle.bx_lock_tables.specs.Queue.{queued, revokes_for, still_waiting, without}
use Rattle.bx_lock_tables.specs.Rows.{lives, verdict_of}
use Rattle.bx_lock_tables.specs.declared.accounts.Account.{Account}
use Rattle.bx_lock_tables.specs.declared.rows.Row.{Row}
use Rattle.bx_lock_tables.specs.declared.verdict.Verdict.{Verdict}
use Rattle.bx_lock_tables.specs.declared.verdict.Verdict.TheVariants as verdicts
use Rattle.bx_master.specs.Masters.{Mastering, Served, both, is_master, learned, listing, shows_close, waits_on}

abbrev pub grant_of : ℕ → Row → Grant
grant_of block row = record { session = row.session; block = block; mode = row.mode; number = row.number; index = row.index }

abbrev pub verdict_on : GlobalState → ℕ → Want → Mastering → Verdict
verdict_on known reading w m = verdict_of known m.last_dead m.index reading (rows_at m.accounts w.block) w

-- ---- the wants that wait

-- all blocks, or one
abbrev pub concerns : Option ℕ → ℕ → Bool
concerns None block = true
concerns (Some one) block = one == block

-- one that waited is tried
abbrev pub tried : Verdict → Want → Mastering → Served
tried verdicts.Refuses w m = (m, [])
tried verdicts.Waits w m = (waits_on w m, [])
tried (verdicts.Grants row) w m = (listing w row m, Grants (grant_of w.block row) ∷ [])

abbrev pub serving_one : GlobalState → ℕ → Option ℕ → Want → Mastering → Served
serving_one known reading only w m = if concerns only w.block then tried (verdict_on known reading w m) w m else (waits_on w m, [])

-- Of the wants that wait those of all blocks, or of one, are tried, in their order; those that must still wait stay, in their order.
abbrev pub serving : GlobalState → ℕ → Option ℕ → List Want → Mastering → Served
serving known reading only [] m = (m, [])
serving known reading only (w ∷ ws) m = both (serving_one known reading only w) (serving known reading only ws) m

abbrev pub served : GlobalState → ℕ → Option ℕ → Mastering → Served
served known reading only m = serving known reading only m.waiting (record m { waiting = [] })

-- ---- it hears

-- A want is granted, waits, while what stands against it is asked back, or is passed over.
abbrev pub wanted : Verdict → GlobalState → Want → Mastering → Served
wanted verdicts.Refuses known w m = (m, [])
wanted verdicts.Waits known w m = (record m { waiting = queued w m.waiting }, revokes_for known (rows_at m.accounts w.block) w)
wanted (verdicts.Grants row) known w m = (record (listing w row m) { waiting = without w m.waiting }, Grants (grant_of w.block row) ∷ [])

abbrev pub hear_want : GlobalState → ℕ → Want → Mastering → Served
hear_want known reading w m = wanted (verdict_on known reading w m) known w m

-- a session that lives, and whose expiry it didn't ask for
abbrev pub may_speak : GlobalState → ℕ → Mastering → Bool
may_speak known session m = lives known session && not (expires_in m.accounts session)

-- a row stands by this number
abbrev pub fits : ℕ → Option Row → Bool
fits number None = false
fits number (Some row) = row.stands && (row.number == number)

abbrev pub let_go : Row → Row
let_go row = record row { stands = false }

-- what was released stands no more; the next grants carry its index
abbrev pub carrying : Release → Mastering → Mastering
carrying l m = record m { index = max m.index l.index }

abbrev pub freeing : Release → Option Row → Mastering → Mastering
freeing l None m = m
freeing l (Some row) m = record m { accounts = listed l.session l.block (let_go row) m.accounts }

abbrev pub released : GlobalState → ℕ → Release → Option Row → Mastering → Served
released known reading l row m = if fits l.number row then served known reading (Some l.block) (freeing l row m) else (m, [])

abbrev pub hear_release : GlobalState → ℕ → Release → Mastering → Served
hear_release known reading l m =
    if may_speak known l.session m
    then released known reading l (row_for m.accounts l.session l.block) (carrying l m)
    else (m, [])

abbrev pub until_in : Option SessionRow → ℕ
until_in None = 0
until_in (Some row) = row.until

-- the end that it has noted, which is at least that of the row
abbrev pub end_for : GlobalState → ℕ → Mastering → ℕ
end_for known session m = max (end_in m.accounts session) (until_in (session_row known.sessions session))

-- a session lasts 4000 more, but no longer than the term
abbrev pub new_end : GlobalState → ℕ → ℕ → Mastering → ℕ
new_end known reading session m = max (end_for known session m) (min (reading + 4000) known.term_end)

abbrev pub hear_renew : GlobalState → ℕ → ℕ → Mastering → Served
hear_renew known reading session m =
    if may_speak known session m
    then (record m { accounts = noting_end session (new_end known reading session m) m.accounts }, Leases session (new_end known reading session m) ∷ [])
    else (m, [])

abbrev pub hear : GlobalState → ℕ → Word → Mastering → Served
hear known reading (Wants w) m = hear_want known reading w m
hear known reading (Grants g) m = (m, [])
hear known reading (Revokes v) m = (m, [])
hear known reading (Releases l) m = hear_release known reading l m
hear known reading (Renews s) m = hear_renew known reading s m
hear known reading (Leases s u) m = (m, [])

-- ---- it ticks

-- a live session whose end is more than 500 below the reading
abbrev pub is_past : GlobalState → ℕ → Mastering → SessionRow → Bool
is_past known reading m row = (row.dead == 0) && ltb (end_for known row.number m + 500) reading

-- the least one
abbrev pub first_past : GlobalState → ℕ → Mastering → List SessionRow → Option ℕ
first_past known reading m [] = None
first_past known reading m (row ∷ rows) = if is_past known reading m row then Some row.number else first_past known reading m rows

abbrev pub take_change : GlobalState → ℕ → Mastering → Option Change
take_change known reading m = if ltb (known.term_end + 500) reading then Some (changes.Take m.server m.boot reading) else None

abbrev pub expiry : GlobalState → ℕ → Mastering → Option ℕ → Option Change
expiry known reading m None = take_change known reading m
expiry known reading m (Some session) = Some (changes.Expire session known.term reading)

-- what it asks for: the master a Renew while less than 4000 is left of its term, else an expiry; each server a Take once the term is past
abbrev pub change_of : GlobalState → ℕ → Mastering → Option Change
change_of known reading m =
    if not (is_master m known) then take_change known reading m
    else if not (ltb known.term_end reading) && ltb known.term_end (reading + 4000) then Some (changes.Renew m.server m.boot reading)
    else expiry known reading m (first_past known reading m known.sessions)

-- it notes for whom it asked for an expiry
abbrev pub marking : Option Change → Mastering → Mastering
marking (Some (changes.Expire session term reading)) m = record m { accounts = marked session m.accounts }
marking other m = m

-- what stands against the wants that wait is asked back again
abbrev pub revokes_again : GlobalState → List Account → List Want → List Word
revokes_again known accounts waiting = flat_map (λ w. revokes_for known (rows_at accounts w.block) w) waiting

abbrev pub tick : GlobalState → Mastering → Served
tick known m =
    if is_master m known
    then (record m { waiting = still_waiting known m.waiting }, revokes_again known m.accounts (still_waiting known m.waiting))
    else (m, [])

-- ---- it learns first

-- Where the state shows a Close, the master serves all wants that wait.
abbrev pub served_if : Bool → GlobalState → ℕ → Mastering → Served
served_if shows known reading m = if shows && is_master m known then served known reading None m else (m, [])

abbrev pub catch_up : GlobalState → ℕ → Mastering → Served
catch_up known reading m = served_if (shows_close m.seen known) known reading (learned known m)

abbrev pub hear_as : GlobalState → ℕ → Option Word → Mastering → Served
hear_as known reading None m = (m, [])
hear_as known reading (Some word) m = if is_master m known then hear known reading word m else (m, [])

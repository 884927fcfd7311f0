-- What a lock server keeps, and what becomes of that.
use Rattle.std.specs.Prelude.{◌≡◌, ℕ, ◌+◌, ltb, ◌==◌, ◌&&◌, max, Bool, true, false, filter, List, [], ◌∷◌, ◌++◌, length, Option, Some, None, if◌then◌else◌}
use Rattle.bx_global.specs.declared.state.GlobalState.{GlobalState}
use Rattle.bx_rows.specs.declared.session.SessionRow.{SessionRow}
use Rattle.bx_lock_words.specs.declared.words.Want.{Want}
use Rattle.bx_lock_words.specs.declared.words.Word.{Word}
use Rattle.bx_lock_tables.specs.Accounts.{has_row, listed}
use Rattle.bx_lock_tables.specs.declared.accounts.Account.{Account}
use Rattle.bx_lock_tables.specs.declared.rows.Row.{Row}

-- A lock server: its number and boot; the term of the last state that it was handed, and how many rows and which next session that had; the
-- index of its next grant; the last session that was dead when it came to know of the term, up to which sessions are of earlier terms; what
-- it keeps of each session; the wants that wait.
pub record Mastering : Type 0 where
  pub server : ℕ
  pub boot : ℕ
  pub term : Option ℕ
  pub seen : Option (ℕ × ℕ)
  pub index : ℕ
  pub last_dead : Option ℕ
  pub accounts : List Account
  pub waiting : List Want

-- it is the master of its boot in this state
abbrev pub is_master : Mastering → GlobalState → Bool
is_master m known = (known.master == m.server) && (known.master_boot == m.boot)

-- ---- it learns a state

-- Sessions were closed since the last state: rows went. Only an Open raises both the rows and the next session, and only a Close lowers the
-- rows. After a restart nothing is known of what went before.
abbrev pub shows_close : Option (ℕ × ℕ) → GlobalState → Bool
shows_close None known = true
shows_close (Some old) known = ltb (length known.sessions + old.1) (old.0 + known.next_session)

abbrev pub later : ℕ → Option ℕ → ℕ
later n None = n
later n (Some m) = max n m

-- the greatest number of a dead row, or of one that was met before
abbrev pub last_dead_of : Option ℕ → SessionRow → Option ℕ
last_dead_of last row = if row.dead == 0 then last else Some (later row.number last)

abbrev pub last_dead_in : Option ℕ → List SessionRow → Option ℕ
last_dead_in last [] = last
last_dead_in last (row ∷ rows) = last_dead_in (last_dead_of last row) rows

abbrev pub is_term : Option ℕ → ℕ → Bool
is_term None term = false
is_term (Some old) term = old == term

-- the first state that it knows of a term: nothing is listed
abbrev pub entered : GlobalState → Mastering → Mastering
entered known m = record m { term = Some known.term; last_dead = last_dead_in None known.sessions; accounts = []; waiting = [] }

-- a later one: what sessions without a row had goes
abbrev pub went_on : GlobalState → Mastering → Mastering
went_on known m = record m { accounts = filter (λ account. has_row known account.session) m.accounts }

abbrev pub noting : GlobalState → Mastering → Mastering
noting known m = record m {
  seen = Some (length known.sessions, known.next_session);
  index = if shows_close m.seen known then max m.index known.index else m.index;
}

abbrev pub learned : GlobalState → Mastering → Mastering
learned known m = if is_term m.term known.term then went_on known (noting known m) else entered known (noting known m)

-- ---- it grants, and has a want wait

abbrev pub listing : Want → Row → Mastering → Mastering
listing w row m = record m { accounts = listed w.session w.block row m.accounts }

abbrev pub waits_on : Want → Mastering → Mastering
waits_on w m = record m { waiting = m.waiting ++ w ∷ [] }

-- ---- it stops, and starts again

-- it knows nothing
abbrev pub restarted : ℕ → Mastering → Mastering
restarted boot m = record { server = m.server; boot = boot; term = None; seen = None; index = 0; last_dead = None; accounts = []; waiting = [] }

-- a new one
abbrev pub made : ℕ → GlobalState → Mastering
made server s = record { server = server; boot = 0; term = Some s.term; seen = Some (length s.sessions, s.next_session); index = 0; last_dead = last_dead_in None s.sessions; accounts = []; waiting = [] }

-- ---- what one step says besides

-- a server, and what it says
abbrev pub Served : Type 0
Served = Mastering × List Word

-- one step, and then another
abbrev pub both : (Mastering → Served) → (Mastering → Served) → Mastering → Served
both first next m = ((next (first m).0).0, (first m).1 ++ (next (first m).0).1)

-- A step is done: the server is as it says, and its words are behind those that were there.
pub record Does (step : Mastering → Served) (old new : Mastering) (before after : List Word) : Type 0 where
  pub is : new ≡ (step old).0
  pub says : after ≡ before ++ (step old).1

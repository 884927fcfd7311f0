-- How one lock server, and one clerk, fit what was done with them; and what holds of the states of a chain.
use Rattle.std.specs.Prelude.{◌≡◌, ℕ, ◌+◌, ◌<◌, ◌≤◌, Bool, true, false, List, [], ◌∷◌, length, Option, Some, None, if◌then◌else◌}
use Rattle.std.specs.List.{AllByRecursion}
use Rattle.bx_global.specs.declared.state.GlobalState.{GlobalState}
use Rattle.bx_rows.specs.Conditions.{AreRising, Fits}
use Rattle.bx_facts.specs.Chains.{Chain, HasRow, IsPlace, LivesIn, last, oldest, session_of}
use Rattle.bx_lock_words.specs.declared.words.Want.{Want}
use Rattle.bx_lock_words.specs.declared.words.Word.{Word}
use Rattle.bx_lock_words.specs.declared.words.Word.TheVariants.{Wants}
use Rattle.bx_locking.specs.Leases.{IsPromised}
use Rattle.bx_locking.specs.Owned.{AreSingle}
use Rattle.bx_locking.specs.Tables.{Entry, Request, Side, Term}
use Rattle.bx_locking.specs.Words.{IsSaid}
use Rattle.bx_lock_tables.specs.Accounts.{account_in, end_in, expires_in, row_for, block_row}
use Rattle.bx_lock_tables.specs.declared.accounts.Account.{Account}
use Rattle.bx_lock_tables.specs.declared.rows.Row.{Row}
use Rattle.bx_master.specs.Masters.{Mastering}
use Rattle.bx_clerk.specs.Clerks.{Clerking}
use Rattle.bx_clerk.specs.Requests.{Requests, request_in}
use Rattle.bx_clerk.specs.declared.requests.Asking.{Asking}

-- ---- the states

-- Of each node and boot at most one session of this life lives, rows have numbers that were given out in order, who lives has an end in the
-- term, and numbers have 64 bits.
pub record AreStates (chain : Chain) (ends : ℕ → ℕ) : Type 0 where
  pub rising : (p : GlobalState) → IsPlace chain p → AreRising p.sessions p.next_session
  pub single : (p : GlobalState) → IsPlace chain p → AreSingle chain.found p
  pub ends_most : (p : GlobalState) (s : ℕ) → IsPlace chain p → LivesIn p s → ends s ≤ p.term_end
  pub index_fits : Fits (last chain).index
  pub next_fits : Fits (last chain).next_session
  pub end_fits : Fits (last chain).term_end

-- ---- a clerk

-- what a clerk's map says of a block
abbrev pub request_from : Option Asking → Option Request
request_from None = None
request_from (Some r) = Some (record { mode = r.mode; number = r.number; held = r.held })

-- each block has one request
abbrev pub AreUnique : Requests → Type 0
AreUnique [] = Unit {0}
AreUnique (entry ∷ rest) = (request_in rest entry.0 ≡ None) × AreUnique rest

-- A session is a node's own in a place of the chain that isn't newer than what the node was handed.
pub record HasSession (chain : Chain) (knew boot n s : ℕ) : Type 0 where
  pub state : GlobalState
  pub place : IsPlace chain state
  pub index : state.index ≤ knew
  pub own : session_of state n boot ≡ Some s

-- What a clerk keeps is what its session asked for. Its counters are at least the session's, and the session's end was promised.
pub record FitsClerk (chain : Chain) (knew boot : ℕ) (side : Side) (had : ℕ → Bool) (promised : List (ℕ × ℕ)) (n : ℕ) (c : Clerking) : Type 0 where
  pub unique : AreUnique c.requests
  pub none : c.session ≡ None → (b : ℕ) → request_in c.requests b ≡ None
  pub session : (s : ℕ) → c.session ≡ Some s → HasSession chain knew boot n s
  pub this_life : (s : ℕ) → c.session ≡ Some s → chain.found ≤ s
  pub had_is : (s : ℕ) → c.session ≡ Some s → had s ≡ true
  pub requests : (s : ℕ) → c.session ≡ Some s → (b : ℕ) → side.requests s b ≡ request_from (request_in c.requests b)
  pub drawn : (s : ℕ) → c.session ≡ Some s → side.drawn s ≤ c.drawn
  pub given : (s : ℕ) → c.session ≡ Some s → side.given s ≤ c.given
  pub lease : (s : ℕ) → c.session ≡ Some s → IsPromised promised s c.lease
  pub blocks : (b : ℕ) (r : Asking) → request_in c.requests b ≡ Some r → Fits b
  pub drawn_fits : Fits c.drawn
  pub given_fits : Fits c.given
  pub knows_fits : Fits c.knows

-- ---- what a lock server keeps

-- a row is of a session, and its number was drawn
pub record IsOwnRow (drawn : ℕ → ℕ) (session : ℕ) (row : Row) : Type 0 where
  pub session_is : row.session ≡ session
  pub number : row.number ≤ drawn session
  pub number_fits : Fits row.number
  pub index_fits : Fits row.index

-- the rows of an account are of its session
pub record OwnsRows (drawn : ℕ → ℕ) (account : Account) : Type 0 where
  pub each : (b : ℕ) (row : Row) → block_row account.rows b ≡ Some row → IsOwnRow drawn account.session row

-- The accounts stand in the order of their sessions, from this one on, and each owns its rows.
abbrev pub AreAccounts : (ℕ → ℕ) → ℕ → List Account → Type 0
AreAccounts drawn least [] = Unit {0}
AreAccounts drawn least (account ∷ accounts) = (least ≤ account.session) × OwnsRows drawn account × AreAccounts drawn (account.session + 1) accounts

-- what a row lists, and the number that it has
abbrev pub entry_of : Row → Option Entry
entry_of row = if row.stands then Some (record { mode = row.mode; number = row.number; index = row.index }) else None

abbrev pub entry_from : Option Row → Option Entry
entry_from None = None
entry_from (Some row) = entry_of row

abbrev pub number_from : Option Row → ℕ
number_from None = 0
number_from (Some row) = row.number

-- a session up to the last one that was dead when the server came to know of the term
abbrev pub IsUpTo : Option ℕ → ℕ → Type 0
IsUpTo None session = ⊥
IsUpTo (Some last) session = session ≤ last

-- ---- a lock server

-- The state that it knows is a place of the chain that isn't newer than what it was handed. It has counted that state's rows, and noted no end
-- behind that of the term.
pub record HasSeen (chain : Chain) (knew : ℕ) (m : Mastering) (state : GlobalState) : Type 0 where
  pub place : IsPlace chain state
  pub index : state.index ≤ knew
  pub term : m.term ≡ Some state.term
  pub seen : m.seen ≡ Some (length state.sessions, state.next_session)
  pub noted : (s : ℕ) → end_in m.accounts s ≤ state.term_end

-- of a session that isn't opened yet, by what it knows, nothing is kept
pub record IsUnknown (term : Term) (noted : ℕ → ℕ) (m : Mastering) (s : ℕ) : Type 0 where
  pub account : account_in m.accounts s ≡ None
  pub listed : (b : ℕ) → term.listed s b ≡ 0
  pub expiring : term.expiring s ≡ false
  pub noted_is : noted s ≡ 0

-- It is the last term's master, and knows this state of that term: the term's data are what it keeps.
pub record IsTied (chain : Chain) (term : Term) (noted : ℕ → ℕ) (m : Mastering) (state : GlobalState) : Type 0 where
  pub view : term.view ≡ state
  pub index : term.index ≡ m.index
  pub table : (s b : ℕ) → term.table s b ≡ entry_from (row_for m.accounts s b)
  pub listed : (s b : ℕ) → HasRow state s → term.listed s b ≡ number_from (row_for m.accounts s b)
  pub expiring : (s : ℕ) → HasRow state s → term.expiring s ≡ expires_in m.accounts s
  pub noted_is : (s : ℕ) → HasRow state s → noted s ≡ end_in m.accounts s
  pub unknown : (s : ℕ) → state.next_session ≤ s → IsUnknown term noted m s
  pub earlier : (t : ℕ) → HasRow state t → t < oldest chain → IsUpTo m.last_dead t

-- The last term's master doesn't know of the term yet: nothing was done in it.
pub record IsUntied (chain : Chain) (term : Term) (noted : ℕ → ℕ) : Type 0 where
  pub first : (p : GlobalState) → IsPlace chain p → p.term ≡ (last chain).term → term.view.index ≤ p.index
  pub index : term.index ≡ 0
  pub table : (s b : ℕ) → term.table s b ≡ None
  pub listed : (s b : ℕ) → term.listed s b ≡ 0
  pub expiring : (s : ℕ) → term.expiring s ≡ false
  pub noted_is : (s : ℕ) → noted s ≡ 0

-- a server of this number and boot is the master in a state
pub record IsMaster (state : GlobalState) (id boot : ℕ) : Type 0 where
  pub server : state.master ≡ id
  pub boot_is : state.master_boot ≡ boot

-- A server knows a state. Where it is the last state's master, and knows a state of its term, the term's data are its own.
pub record Knows (chain : Chain) (knew boot : ℕ) (term : Term) (noted : ℕ → ℕ) (id : ℕ) (m : Mastering) : Type 0 where
  pub state : GlobalState
  pub seen : HasSeen chain knew m state
  pub tied : IsMaster (last chain) id boot → state.term ≡ (last chain).term → IsTied chain term noted m state

-- A server that is up. The wants that wait were said. Where it is the last state's master, and doesn't know of its term, nothing was done in the term.
pub record FitsMaster (chain : Chain) (knew boot : ℕ) (said : List Word) (drawn : ℕ → ℕ) (term : Term) (noted : ℕ → ℕ) (id : ℕ) (m : Mastering) : Type 0 where
  pub server : m.server ≡ id
  pub boot_is : m.boot ≡ boot
  pub nothing : m.term ≡ None → m.seen ≡ None
  pub index_fits : Fits m.index
  pub accounts : AreAccounts drawn 0 m.accounts
  pub waits : AllByRecursion (λ (w : Want). IsSaid said (Wants w)) m.waiting
  pub knows : (t : ℕ) → m.term ≡ Some t → Knows chain knew boot term noted id m
  pub untied : IsMaster (last chain) id boot → (m.term ≡ Some (last chain).term → ⊥) → IsUntied chain term noted

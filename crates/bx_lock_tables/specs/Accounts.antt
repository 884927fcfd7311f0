-- What a lock server keeps of each session.
use Rattle.std.specs.Prelude.{◌≡◌, ℕ, zero, suc, ltb, ◌==◌, Bool, true, false, nat_eq, filter_map, List, [], ◌∷◌, slice_index_or, slice_set, Option, Some, None, if◌then◌else◌}
use Rattle.std.specs.Map.{lookup}
use Rattle.indexmap.specs.IndexMap.{insert_entry}
use Rattle.bx_global.specs.declared.state.GlobalState.{GlobalState}
use Rattle.bx_rows.specs.declared.session.SessionRow.{SessionRow}
use Rattle.bx_rows.specs.Words.{row_in as session_row}
use Rattle.bx_lock_tables.specs.declared.accounts.Account.{Account}
use Rattle.bx_lock_tables.specs.declared.rows.Row.{Row}

-- the row of a block
abbrev pub block_row : List (ℕ × Row) → ℕ → Option Row
block_row rows block = lookup (nat_eq block) rows

-- ---- the accounts, in the order of the sessions

abbrev pub account_in : List Account → ℕ → Option Account
account_in [] session = None
account_in (account ∷ accounts) session =
    if account.session == session then Some account
    else if ltb session account.session then None
    else account_in accounts session

abbrev pub fresh : ℕ → Account
fresh session = record { session = session; noted = 0; expiring = false; rows = [] }

abbrev pub or_fresh : Option Account → ℕ → Account
or_fresh None session = fresh session
or_fresh (Some account) session = account

abbrev pub account_for : List Account → ℕ → Account
account_for accounts session = or_fresh (account_in accounts session) session

-- one in the place of that of its session, or before those of higher sessions
abbrev pub with_account : List Account → Account → List Account
with_account [] new = new ∷ []
with_account (account ∷ accounts) new =
    if account.session == new.session then new ∷ accounts
    else if ltb new.session account.session then new ∷ account ∷ accounts
    else account ∷ with_account accounts new

-- the place of the first one that isn't of a lower session
abbrev pub place : List Account → ℕ → ℕ
place [] session = zero
place (account ∷ accounts) session = if ltb account.session session then suc (place accounts session) else zero

abbrev pub is_of : Option Account → ℕ → Bool
is_of None session = false
is_of (Some account) session = account.session == session

-- A session has an account: it is here, and whatever is put here is put in its place.
pub record Opens (old : List Account) (session at : ℕ) (new : List Account) : Type 0 where
  pub here : (default : Account) → slice_index_or new at default ≡ account_for old session
  pub puts : (account : Account) → account.session ≡ session → slice_set new at account ≡ with_account old account

-- ---- what is read off them

abbrev pub end_of : Option Account → ℕ
end_of None = 0
end_of (Some account) = account.noted

-- the end that was promised to a session last, 0 for none
abbrev pub end_in : List Account → ℕ → ℕ
end_in accounts session = end_of (account_in accounts session)

abbrev pub is_marked : Option Account → Bool
is_marked None = false
is_marked (Some account) = account.expiring

-- a session's expiry was asked for
abbrev pub expires_in : List Account → ℕ → Bool
expires_in accounts session = is_marked (account_in accounts session)

abbrev pub row_within : Option Account → ℕ → Option Row
row_within None block = None
row_within (Some account) block = block_row account.rows block

-- what a session was granted last of a block
abbrev pub row_for : List Account → ℕ → ℕ → Option Row
row_for accounts session block = row_within (account_in accounts session) block

-- the rows of a block
abbrev pub rows_at : List Account → ℕ → List Row
rows_at accounts block = filter_map (λ account. block_row account.rows block) accounts

-- ---- what changes them

abbrev pub noting : ℕ → ℕ → List Account → List Account
noting session end accounts = with_account accounts (record (account_for accounts session) { noted = end })

abbrev pub marked : ℕ → List Account → List Account
marked session accounts = with_account accounts (record (account_for accounts session) { expiring = true })

abbrev pub with_row : Account → ℕ → Row → Account
with_row account block row = record account { rows = insert_entry nat_eq account.rows block row }

abbrev pub listed : ℕ → ℕ → Row → List Account → List Account
listed session block row accounts = with_account accounts (with_row (account_for accounts session) block row)

-- a session has a row in a state
abbrev pub has_some : Option SessionRow → Bool
has_some None = false
has_some (Some row) = true

abbrev pub has_row : GlobalState → ℕ → Bool
has_row known session = has_some (session_row known.sessions session)

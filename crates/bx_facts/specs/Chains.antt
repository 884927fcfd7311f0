-- The chain of states that the cluster decides on.
use Rattle.std.specs.Prelude.{◌≡◌, ℕ, ◌<◌, ◌⊎◌, Bool, true, false, ◌||◌, ◌&&◌, ◌==◌, find, List, [], ◌∷◌, Option, Some, None, Contains, IsSome, if◌then◌else◌, is_some, IfSome, slice_get}
use Rattle.bx_global.specs.declared.change.Change.{Change}
use Rattle.bx_global.specs.declared.change.Change.TheVariants.{Renew, Take, Open, Expire, Claim, Close, Shift}
use Rattle.bx_global.specs.bx_rows.specs.declared.session.SessionRow.{SessionRow}
use Rattle.bx_global.specs.declared.state.GlobalState.{GlobalState}
use Rattle.bx_global.specs.Table.{IsLegal, effect}
use Rattle.bx_global.specs.bx_rows.specs.Words.{row_in, live_in, IsLive}

-- The first state, and the changes that were decided since, the newest first. Sessions below `found` are of an earlier life of the
-- volume: it is 0 where the machines begin with the volume, and the next session's number of the first state where they found it.
pub record Chain : Type 0 where
  pub found : ℕ
  pub first : GlobalState
  pub changes : List Change

-- the chain to begin with, of a new volume and of one that was found
abbrev pub opening_chain : GlobalState → Chain
opening_chain s = record { found = 0; first = s; changes = [] }

abbrev pub found_chain : GlobalState → Chain
found_chain s = record { found = s.next_session; first = s; changes = [] }

abbrev pub state_after : GlobalState → List Change → GlobalState
state_after first [] = first
state_after first (change ∷ older) = effect (state_after first older) change

-- the last state
abbrev pub last : Chain → GlobalState
last chain = state_after chain.first chain.changes

-- the chain with one change more
abbrev pub grown : Chain → Change → Chain
grown chain change = record chain { changes = change ∷ chain.changes }

-- each change was legal on the state before it
abbrev pub AreLegal : GlobalState → List Change → Type 0
AreLegal first [] = Unit {0}
AreLegal first (change ∷ older) = IsLegal (state_after first older) change × AreLegal first older

-- the state is one of them
abbrev pub IsAmong : GlobalState → List Change → GlobalState → Type 0
IsAmong first [] s = s ≡ first
IsAmong first (change ∷ older) s = (s ≡ state_after first (change ∷ older)) ⊎ IsAmong first older s

abbrev pub IsPlace : Chain → GlobalState → Type 0
IsPlace chain s = IsAmong chain.first chain.changes s

-- What may come to stand in the place of the last state: it itself, or what one of these changes makes of it.
abbrev pub IsNext : List Change → GlobalState → GlobalState → Type 0
IsNext changes s next = (next ≡ s) ⊎ ((change : Change) × Contains changes change × IsLegal s change × (next ≡ effect s change))

-- the chain is as it was, or has one change more, which is among these
abbrev pub GrowsBy : List Change → Chain → Chain → Type 0
GrowsBy changes old new = (new ≡ old) ⊎ ((change : Change) × Contains changes change × IsLegal (last old) change × (new ≡ grown old change))

-- a session has a row
abbrev pub HasRow : GlobalState → ℕ → Type 0
HasRow s session = IsSome (row_in s.sessions session)

-- it has a live one
abbrev pub LivesIn : GlobalState → ℕ → Type 0
LivesIn s session = IsLive s.sessions session

-- a session had a row in some state
abbrev pub is_ever : GlobalState → List Change → ℕ → Bool
is_ever first [] session = is_some (row_in first.sessions session)
is_ever first (change ∷ older) session = is_ever first older session || is_some (row_in (state_after first (change ∷ older)).sessions session)

-- the index of the state in which its row first stood
abbrev pub first_index : GlobalState → List Change → ℕ → ℕ
first_index first [] session = first.index
first_index first (change ∷ older) session = if is_ever first older session then first_index first older session else (state_after first (change ∷ older)).index

abbrev pub opened_at : Chain → ℕ → ℕ
opened_at chain session = first_index chain.first chain.changes session

-- Sessions below this number are of an earlier term, or an earlier life.
abbrev pub term_begins : ℕ → GlobalState → List Change → ℕ
term_begins found first [] = found
term_begins found first (Take by boot reading ∷ older) = (state_after first older).next_session
term_begins found first (Renew by boot reading ∷ older) = term_begins found first older
term_begins found first (Open node boot reading ∷ older) = term_begins found first older
term_begins found first (Expire session term reading ∷ older) = term_begins found first older
term_begins found first (Claim gone by ∷ older) = term_begins found first older
term_begins found first (Close gone by ∷ older) = term_begins found first older
term_begins found first (Shift device epoch mode second boot ∷ older) = term_begins found first older

-- the number of a row
abbrev pub number_in : Option SessionRow → Option ℕ
number_in None = None
number_in (Some row) = Some row.number

-- the live session of a node and boot, by its number
abbrev pub session_of : GlobalState → ℕ → ℕ → Option ℕ
session_of s node boot = number_in (live_in s.sessions node boot)

-- the live session of a node, whatever its boot
abbrev pub any_session_of : GlobalState → ℕ → Option ℕ
any_session_of s node = number_in (find (λ row. row.node == node && row.dead == 0) s.sessions)

-- by its boot, or without
abbrev pub session_by : Bool → GlobalState → ℕ → ℕ → Option ℕ
session_by true s node boot = session_of s node boot
session_by false s node boot = any_session_of s node

-- Of the changes that owners ask for, each was handed back by them.
abbrev pub IsOwnersOwn : List Change → Change → Type 0
IsOwnersOwn handed (Renew by boot reading) = Contains handed (Renew by boot reading)
IsOwnersOwn handed (Take by boot reading) = Contains handed (Take by boot reading)
IsOwnersOwn handed (Open node boot reading) = Contains handed (Open node boot reading)
IsOwnersOwn handed (Expire session term reading) = Contains handed (Expire session term reading)
IsOwnersOwn handed (Claim gone by) = Unit {0}
IsOwnersOwn handed (Close gone by) = Unit {0}
IsOwnersOwn handed (Shift device epoch mode second boot) = Unit {0}

-- of those that a store asks for
abbrev pub IsStoresOwn : List Change → Change → Type 0
IsStoresOwn handed (Shift device epoch mode second boot) = Contains handed (Shift device epoch mode second boot)
IsStoresOwn handed (Renew by boot reading) = Unit {0}
IsStoresOwn handed (Take by boot reading) = Unit {0}
IsStoresOwn handed (Open node boot reading) = Unit {0}
IsStoresOwn handed (Expire session term reading) = Unit {0}
IsStoresOwn handed (Claim gone by) = Unit {0}
IsStoresOwn handed (Close gone by) = Unit {0}

-- the kinds of change that owners ask for, and those that a store asks for
abbrev pub IsOwnersKind : Change → Type 0
IsOwnersKind (Renew by boot reading) = Unit {0}
IsOwnersKind (Take by boot reading) = Unit {0}
IsOwnersKind (Open node boot reading) = Unit {0}
IsOwnersKind (Expire session term reading) = Unit {0}
IsOwnersKind (Claim gone by) = ⊥
IsOwnersKind (Close gone by) = ⊥
IsOwnersKind (Shift device epoch mode second boot) = ⊥

abbrev pub IsStoresKind : Change → Type 0
IsStoresKind (Shift device epoch mode second boot) = Unit {0}
IsStoresKind (Renew by boot reading) = ⊥
IsStoresKind (Take by boot reading) = ⊥
IsStoresKind (Open node boot reading) = ⊥
IsStoresKind (Expire session term reading) = ⊥
IsStoresKind (Claim gone by) = ⊥
IsStoresKind (Close gone by) = ⊥

-- what a call handed back, in front of what was handed back before
abbrev pub with_change : Option Change → List Change → List Change
with_change None handed = handed
with_change (Some change) handed = change ∷ handed

abbrev pub oldest : Chain → ℕ
oldest chain = term_begins chain.found chain.first chain.changes

-- a boot that stands in no row of the state
pub record IsAboveBoots (s : GlobalState) (boot : ℕ) : Type 0 where
  pub master : s.master_boot < boot
  pub sessions : (session : ℕ) → IfSome (row_in s.sessions session) (λ row. row.boot < boot)
  pub devices : (device : ℕ) → IfSome (slice_get s.devices device) (λ row. (row.boot_a < boot) × (row.boot_b < boot))

-- the greatest boot that disks may have where they are opened: as many are left above it
abbrev pub most_boot : ℕ
most_boot = 4611686018427387903

-- a machine that found its volume has a boot above those that it found
abbrev pub HasOwnBoot : Chain → ℕ → Type 0
HasOwnBoot chain boot = (chain.found ≡ 0) ⊎ IsAboveBoots chain.first boot

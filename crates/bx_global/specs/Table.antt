-- Which changes of a state are legal, and what they make of it.
use Rattle.std.specs.Prelude.{◌≡◌, ℕ, ◌+◌, ◌-◌, ◌^◌, ◌<◌, ◌≤◌, [], ◌∷◌, ◌++◌, ◌⊎◌, map, slice_get, min, max, Option, None, IsSomeAnd, MatchOption}
use Rattle.bx_global.specs.declared.change.Change.{Change}
use Rattle.bx_global.specs.declared.change.Change.TheVariants.{Renew, Take, Open, Expire, Claim, Close, Shift}
use Rattle.bx_global.specs.declared.state.GlobalState.{GlobalState}
use Rattle.bx_rows.specs.declared.device.DeviceRow.{DeviceRow}
use Rattle.bx_rows.specs.declared.session.SessionRow.{SessionRow}
use Rattle.bx_rows.specs.Modes.{IsReachable}
use Rattle.bx_rows.specs.Rows.{dead, expired, claimed, without, shifted, at_place}
use Rattle.bx_rows.specs.Words.{row_in, live_in, IsLive, least_free}

-- the greatest number
abbrev pub greatest : ℕ
greatest = 2 ^ 64 - 1

-- What a change asks of the state. Where it makes a number greater, the number isn't to pass the greatest.
abbrev pub MeetsRow : GlobalState → Change → Type 0
MeetsRow s (Renew by boot reading) =
    (by ≡ s.master) × (boot ≡ s.master_boot) × (reading ≤ s.term_end) × (reading + 8000 ≤ greatest)
MeetsRow s (Take by boot reading) =
    (by < 2) × (s.term_end + 500 < reading) × (s.term + 1 ≤ greatest) × (reading + 8000 ≤ greatest)
MeetsRow s (Open node boot reading) =
    (node < 4) × (reading ≤ s.term_end) × (live_in s.sessions node boot ≡ None) × (least_free s.sessions < 8) × (s.next_session + 1 ≤ greatest)
MeetsRow s (Expire session term reading) =
    (term ≡ s.term) × IsSomeAnd (row_in s.sessions session) (λ row. (row.dead ≡ 0) × (row.until + 500 < reading))
MeetsRow s (Claim gone by) =
    IsSomeAnd (row_in s.sessions gone) (λ row. (row.dead ≡ 1) × (IsLive s.sessions row.by → ⊥)) × IsLive s.sessions by
MeetsRow s (Close gone by) =
    IsSomeAnd (row_in s.sessions gone) (λ row. (row.dead ≡ 1) × (row.by ≡ by)) × IsLive s.sessions by
MeetsRow s (Shift device epoch mode second boot) =
    IsSomeAnd (slice_get s.devices device) (λ row. (epoch ≡ row.epoch) × IsReachable row.mode mode × (row.epoch + 1 ≤ greatest))

-- a change of a state is legal: each makes the index greater by one
pub record IsLegal (s : GlobalState) (change : Change) : Type 0 where
  pub index : s.index + 1 ≤ greatest
  pub row : MeetsRow s change

-- the row of a session that is opened
abbrev pub opened : GlobalState → ℕ → ℕ → ℕ → SessionRow
opened s node boot reading = record {
  number = s.next_session;
  node = node;
  boot = boot;
  slot = least_free s.sessions;
  until = min (reading + 4000) s.term_end;
  dead = 0;
  by = 0;
}

-- the state after a change
abbrev pub effect : GlobalState → Change → GlobalState
effect s (Renew by boot reading) = record s { index = s.index + 1; term_end = max s.term_end (reading + 8000) }
effect s (Take by boot reading) = record s {
  index = s.index + 1;
  master = by;
  master_boot = boot;
  term = s.term + 1;
  term_end = reading + 8000;
  sessions = map dead s.sessions;
}
effect s (Open node boot reading) = record s {
  index = s.index + 1;
  next_session = s.next_session + 1;
  sessions = s.sessions ++ opened s node boot reading ∷ [];
}
effect s (Expire session term reading) = record s { index = s.index + 1; sessions = map (expired session) s.sessions }
effect s (Claim gone by) = record s { index = s.index + 1; sessions = map (claimed gone by) s.sessions }
effect s (Close gone by) = record s { index = s.index + 1; sessions = without gone s.sessions }
effect s (Shift device epoch mode second boot) = record s {
  index = s.index + 1;
  devices = at_place device (shifted mode second boot) s.devices;
}

-- what is answered to a change: the state after it exactly where it is legal
abbrev pub IsAnswer : GlobalState → Change → Option GlobalState → Type 0
IsAnswer s change made = MatchOption made (IsLegal s change → ⊥) (λ new. IsLegal s change × (new ≡ effect s change))

-- a device's row stays, or its mode is one that a step leads to, in the next epoch
abbrev pub Follows : DeviceRow → DeviceRow → Type 0
Follows old new = (new ≡ old) ⊎ (IsReachable old.mode new.mode × (new.epoch ≡ old.epoch + 1))

-- a change concerns a session: its row is changed, comes or goes
abbrev pub Concerns : GlobalState → Change → ℕ → Type 0
Concerns s (Renew by boot reading) number = ⊥
Concerns s (Take by boot reading) number = Unit {0}
Concerns s (Open node boot reading) number = number ≡ s.next_session
Concerns s (Expire session term reading) number = number ≡ session
Concerns s (Claim gone by) number = number ≡ gone
Concerns s (Close gone by) number = number ≡ gone
Concerns s (Shift device epoch mode second boot) number = ⊥

-- a change closes a session
abbrev pub Closes : Change → ℕ → Type 0
Closes (Renew by boot reading) number = ⊥
Closes (Take by boot reading) number = ⊥
Closes (Open node boot reading) number = ⊥
Closes (Expire session term reading) number = ⊥
Closes (Claim gone by) number = ⊥
Closes (Close gone by) number = number ≡ gone
Closes (Shift device epoch mode second boot) number = ⊥

-- a change shifts the device at a place
abbrev pub Shifts : Change → ℕ → Type 0
Shifts (Renew by boot reading) n = ⊥
Shifts (Take by boot reading) n = ⊥
Shifts (Open node boot reading) n = ⊥
Shifts (Expire session term reading) n = ⊥
Shifts (Claim gone by) n = ⊥
Shifts (Close gone by) n = ⊥
Shifts (Shift device epoch mode second boot) n = n ≡ device

-- What each change keeps of a session's row and of a device's epoch.
use Rattle.std.proofs.Common.{◌≡◌, ℕ, ◌+◌, ◌<◌, ◌≤◌, Bool, true, false, eqb, List, [], ◌∷◌, ◌++◌, map, Some, None, refl, sym, ap, ◌∙◌, inl, inr, arith, ne_eqb}
use Rattle.std.specs.Prelude.{slice_get, IsSomeAnd}
use Rattle.std.specs.Option.{option_map}
use Rattle.std.proofs.lemmas.Bool.Decides.{eqb_tells}
use Rattle.bx_global.specs.declared.change.Change.{Change}
use Rattle.bx_global.specs.declared.change.Change.TheVariants.{Renew, Take, Open, Expire, Claim, Close, Shift}
use Rattle.bx_rows.specs.declared.device.DeviceRow.{DeviceRow}
use Rattle.bx_rows.specs.declared.session.SessionRow.{SessionRow}
use Rattle.bx_global.specs.declared.state.GlobalState.{GlobalState}
use Rattle.bx_rows.specs.Rows.{dead, expired, claimed, shifted, without, GoesOn}
use Rattle.bx_global.specs.Table.{effect, opened, Closes, Concerns, Follows, IsLegal, Shifts}
use Rattle.bx_rows.specs.Modes.{IsReachable}
use Rattle.bx_rows.specs.Words.{row_in}
use Rattle.bx_global.proofs.Places.{at_place_at, at_place-other}

-- ---- rows after an edit

module _ (f : SessionRow → SessionRow) (keeps : (row : SessionRow) → (f row).number ≡ row.number) where
  row_in-map : (rows : List SessionRow) (n : ℕ) → row_in (map f rows) n ≡ option_map f (row_in rows n)
  row_in-map [] n = refl
  row_in-map (row ∷ rows) n =
      (elim (eqb row.number n) as (λ (b : Bool). eqb row.number n ≡ b → row_in (map f (row ∷ rows)) n ≡ option_map f (row_in (row ∷ rows) n)) [
        | true ↦ λ t. let new : eqb (f row).number n ≡ true = ap (λ (k : ℕ). eqb k n) (keeps row) ∙ t in rw (new, t) refl
        | false ↦ λ t. let new : eqb (f row).number n ≡ false = ap (λ (k : ℕ). eqb k n) (keeps row) ∙ t in rw (new, t) (row_in-map rows n)
      ]) refl

row_in-append : (rows : List SessionRow) (new : SessionRow) (n : ℕ) (row : SessionRow) → row_in rows n ≡ Some row → row_in (rows ++ new ∷ []) n ≡ Some row
row_in-append [] new n row e = absurd cc
row_in-append (r ∷ rows) new n row e =
    (elim (eqb r.number n) as (λ (b : Bool). eqb r.number n ≡ b → row_in (r ∷ rows ++ new ∷ []) n ≡ Some row) [
      | true ↦ λ t. let h = rw t at e in rw t h
      | false ↦ λ t. let h = rw t at e in rw t (row_in-append rows new n row h)
    ]) refl

none-append : (rows : List SessionRow) (new : SessionRow) (n : ℕ) → eqb new.number n ≡ false → row_in rows n ≡ None → row_in (rows ++ new ∷ []) n ≡ None
none-append [] new n ne e = rw ne refl
none-append (r ∷ rows) new n ne e =
    (elim (eqb r.number n) as (λ (b : Bool). eqb r.number n ≡ b → row_in (r ∷ rows ++ new ∷ []) n ≡ None) [
      | true ↦ λ t. let h = rw t at e in absurd cc
      | false ↦ λ t. let h = rw t at e in rw t (none-append rows new n ne h)
    ]) refl

-- ---- a row goes on until it is closed

same_row : (row : SessionRow) → GoesOn row row
same_row row = record { number = refl; node = refl; boot = refl; slot = refl; until = refl; dead = λ d. d }

dead_row : (row : SessionRow) → GoesOn row (dead row)
dead_row row = record { number = refl; node = refl; boot = refl; slot = refl; until = refl; dead = λ d. refl }

expired_row : (session : ℕ) (row : SessionRow) → GoesOn row (expired session row)
expired_row session row =
    (elim (eqb row.number session) as (λ (b : Bool). eqb row.number session ≡ b → GoesOn row (expired session row)) [
      | true ↦ λ t. rw t (dead_row row)
      | false ↦ λ t. rw t (same_row row)
    ]) refl

claimed_row : (session by : ℕ) (row : SessionRow) → GoesOn row (claimed session by row)
claimed_row session by row =
    (elim (eqb row.number session) as (λ (b : Bool). eqb row.number session ≡ b → GoesOn row (claimed session by row)) [
      | true ↦ λ t. rw t (record { number = refl; node = refl; boot = refl; slot = refl; until = refl; dead = λ d. d })
      | false ↦ λ t. rw t (same_row row)
    ]) refl

pub keeps_expired : (session : ℕ) (row : SessionRow) → (expired session row).number ≡ row.number
keeps_expired session row =
    (elim (eqb row.number session) as (λ (b : Bool). eqb row.number session ≡ b → (expired session row).number ≡ row.number) [
      | true ↦ λ t. rw t refl
      | false ↦ λ t. rw t refl
    ]) refl

pub keeps_claimed : (session by : ℕ) (row : SessionRow) → (claimed session by row).number ≡ row.number
keeps_claimed session by row =
    (elim (eqb row.number session) as (λ (b : Bool). eqb row.number session ≡ b → (claimed session by row).number ≡ row.number) [
      | true ↦ λ t. rw t refl
      | false ↦ λ t. rw t refl
    ]) refl

-- a row that isn't the one changed stays
other-expired : (session : ℕ) (row : SessionRow) → (row.number ≡ session → ⊥) → expired session row ≡ row
other-expired session row ne = rw (ne_eqb row.number session ne) refl

other-claimed : (session by : ℕ) (row : SessionRow) → (row.number ≡ session → ⊥) → claimed session by row ≡ row
other-claimed session by row ne = rw (ne_eqb row.number session ne) refl

module _ (m : ℕ) (f : SessionRow → SessionRow) (keeps : (row : SessionRow) → (f row).number ≡ row.number) (others : (row : SessionRow) → (row.number ≡ m → ⊥) → f row ≡ row) where
  other-map : (rows : List SessionRow) (n : ℕ) → (n ≡ m → ⊥) → row_in (map f rows) n ≡ row_in rows n
  other-map [] n ne = refl
  other-map (row ∷ rows) n ne =
      elim (eqb_tells row.number n) [
        | inl h ↦ let same : f row ≡ row = others row (λ e. ne (sym h.1 ∙ e)) in rw (same, h.0) refl
        | inr h ↦ let new : eqb (f row).number n ≡ false = ap (λ (k : ℕ). eqb k n) (keeps row) ∙ h.0 in rw (new, h.0) (other-map rows n ne)
      ]

other-without : (m : ℕ) (rows : List SessionRow) (n : ℕ) → (n ≡ m → ⊥) → row_in (without m rows) n ≡ row_in rows n
other-without m [] n ne = refl
other-without m (row ∷ rows) n ne =
    elim (eqb_tells row.number m) [
      | inl h ↦ let other : eqb row.number n ≡ false = ne_eqb row.number n (λ e. ne (sym e ∙ h.1)) in rw (h.0, other) (other-without m rows n ne)
      | inr h ↦ elim (eqb_tells row.number n) [
        | inl k ↦ rw (h.0, k.0) refl
        | inr k ↦ rw (h.0, k.0) (other-without m rows n ne)
      ]
    ]

other-append : (rows : List SessionRow) (new : SessionRow) (n : ℕ) → (n ≡ new.number → ⊥) → row_in (rows ++ new ∷ []) n ≡ row_in rows n
other-append [] new n ne = rw (ne_eqb new.number n (λ e. ne (sym e))) refl
other-append (row ∷ rows) new n ne =
    elim (eqb_tells row.number n) [
      | inl h ↦ rw h.0 refl
      | inr h ↦ rw h.0 (other-append rows new n ne)
    ]

pub sessions_stay : (s : GlobalState) (change : Change) (number : ℕ) → (Concerns s change number → ⊥) → row_in (effect s change).sessions number ≡ row_in s.sessions number
sessions_stay s (Renew by boot reading) number ne = refl
sessions_stay s (Take by boot reading) number ne = absurd (ne tt)
sessions_stay s (Open node boot reading) number ne = other-append s.sessions (opened s node boot reading) number ne
sessions_stay s (Expire session term reading) number ne = other-map session (expired session) (keeps_expired session) (other-expired session) s.sessions number ne
sessions_stay s (Claim gone by) number ne = other-map gone (claimed gone by) (keeps_claimed gone by) (other-claimed gone by) s.sessions number ne
sessions_stay s (Close gone by) number ne = other-without gone s.sessions number ne
sessions_stay s (Shift device epoch mode second boot) number ne = refl

pub devices_stay : (s : GlobalState) (change : Change) (n : ℕ) → (Shifts change n → ⊥) → slice_get (effect s change).devices n ≡ slice_get s.devices n
devices_stay s (Renew by boot reading) n ne = refl
devices_stay s (Take by boot reading) n ne = refl
devices_stay s (Open node boot reading) n ne = refl
devices_stay s (Expire session term reading) n ne = refl
devices_stay s (Claim gone by) n ne = refl
devices_stay s (Close gone by) n ne = refl
devices_stay s (Shift device epoch mode second boot) n ne = at_place-other device (shifted mode second boot) s.devices n ne

pub master_stays : (s : GlobalState) (change : Change) → ((by boot reading : ℕ) → change ≡ Take by boot reading → ⊥) → ((effect s change).master ≡ s.master) × ((effect s change).master_boot ≡ s.master_boot) × ((effect s change).term ≡ s.term)
master_stays s (Renew by boot reading) ne = (refl, refl, refl)
master_stays s (Take by boot reading) ne = absurd (ne by boot reading refl)
master_stays s (Open node boot reading) ne = (refl, refl, refl)
master_stays s (Expire session term reading) ne = (refl, refl, refl)
master_stays s (Claim gone by) ne = (refl, refl, refl)
master_stays s (Close gone by) ne = (refl, refl, refl)
master_stays s (Shift device epoch mode second boot) ne = (refl, refl, refl)

pub row_stays : (s : GlobalState) (change : Change) (number : ℕ) (row : SessionRow) → row_in s.sessions number ≡ Some row → (Closes change number → ⊥)
    → IsSomeAnd (row_in (effect s change).sessions number) (GoesOn row)
row_stays s (Renew by boot reading) number row e kept = rw e (same_row row)
row_stays s (Take by boot reading) number row e kept = rw (row_in-map dead (λ r. refl) s.sessions number, e) (dead_row row)
row_stays s (Open node boot reading) number row e kept = rw (row_in-append s.sessions (opened s node boot reading) number row e) (same_row row)
row_stays s (Expire session term reading) number row e kept = rw (row_in-map (expired session) (keeps_expired session) s.sessions number, e) (expired_row session row)
row_stays s (Claim gone by) number row e kept = rw (row_in-map (claimed gone by) (keeps_claimed gone by) s.sessions number, e) (claimed_row gone by row)
row_stays s (Close gone by) number row e kept = rw (other-without gone s.sessions number kept, e) (same_row row)
row_stays s (Shift device epoch mode second boot) number row e kept = rw e (same_row row)

none-without : (m : ℕ) (rows : List SessionRow) → row_in (without m rows) m ≡ None
none-without m [] = refl
none-without m (r ∷ rows) =
    (elim (eqb r.number m) as (λ (b : Bool). eqb r.number m ≡ b → row_in (without m (r ∷ rows)) m ≡ None) [
      | true ↦ λ t. rw t (none-without m rows)
      | false ↦ λ t. rw t (rw t (none-without m rows))
    ]) refl

pub closed_goes : (s : GlobalState) (change : Change) (number : ℕ) → Closes change number → row_in (effect s change).sessions number ≡ None
closed_goes s (Renew by boot reading) number h = absurd h
closed_goes s (Take by boot reading) number h = absurd h
closed_goes s (Open node boot reading) number h = absurd h
closed_goes s (Expire session term reading) number h = absurd h
closed_goes s (Claim gone by) number h = absurd h
closed_goes s (Close gone by) number h = rw h (none-without gone s.sessions)
closed_goes s (Shift device epoch mode second boot) number h = absurd h

-- ---- a number that is gone stays gone

pub stays_gone : (s : GlobalState) (change : Change) (number : ℕ) → number < s.next_session → row_in s.sessions number ≡ None → row_in (effect s change).sessions number ≡ None
stays_gone s (Renew by boot reading) number lt e = e
stays_gone s (Take by boot reading) number lt e = rw (row_in-map dead (λ r. refl) s.sessions number, e) refl
stays_gone s (Open node boot reading) number lt e = none-append s.sessions (opened s node boot reading) number (ne_eqb _ _ (λ h. omega (arith, h))) e
stays_gone s (Expire session term reading) number lt e = rw (row_in-map (expired session) (keeps_expired session) s.sessions number, e) refl
stays_gone s (Claim gone by) number lt e = rw (row_in-map (claimed gone by) (keeps_claimed gone by) s.sessions number, e) refl
stays_gone s (Close gone by) number lt e = elim (eqb_tells number gone) [ inl h ↦ rw h.1 (none-without gone s.sessions) | inr h ↦ other-without gone s.sessions number h.1 ∙ e ]
stays_gone s (Shift device epoch mode second boot) number lt e = e

-- ---- no epoch falls

epoch_shifted : (mode : ℕ) (second : Bool) (boot : ℕ) (row : DeviceRow) → row.epoch ≤ (shifted mode second boot row).epoch
epoch_shifted mode true boot row = omega arith
epoch_shifted mode false boot row = omega arith

pub epoch_rises : (s : GlobalState) (change : Change) (n : ℕ) (row : DeviceRow) → slice_get s.devices n ≡ Some row → IsSomeAnd (slice_get (effect s change).devices n) (λ new. row.epoch ≤ new.epoch)
epoch_rises s (Renew by boot reading) n row e = rw e (omega arith)
epoch_rises s (Take by boot reading) n row e = rw e (omega arith)
epoch_rises s (Open node boot reading) n row e = rw e (omega arith)
epoch_rises s (Expire session term reading) n row e = rw e (omega arith)
epoch_rises s (Claim gone by) n row e = rw e (omega arith)
epoch_rises s (Close gone by) n row e = rw e (omega arith)
epoch_rises s (Shift device epoch mode second boot) n row e =
    elim (eqb_tells n device) [
      | inl h ↦ rw (at_place_at device (shifted mode second boot) s.devices n row h.1 e) (epoch_shifted mode second boot row)
      | inr h ↦ rw (at_place-other device (shifted mode second boot) s.devices n h.1, e) (omega arith)
    ]

-- ---- modes go by steps

shift_follows : (mode : ℕ) (second : Bool) (boot : ℕ) (row : DeviceRow) → IsReachable row.mode mode → Follows row (shifted mode second boot row)
shift_follows mode true boot row r = inr (r, refl)
shift_follows mode false boot row r = inr (r, refl)

pub follows : (s : GlobalState) (change : Change) (n : ℕ) (row : DeviceRow) → IsLegal s change → slice_get s.devices n ≡ Some row → IsSomeAnd (slice_get (effect s change).devices n) (Follows row)
follows s (Renew by boot reading) n row legal e = rw e (inl refl)
follows s (Take by boot reading) n row legal e = rw e (inl refl)
follows s (Open node boot reading) n row legal e = rw e (inl refl)
follows s (Expire session term reading) n row legal e = rw e (inl refl)
follows s (Claim gone by) n row legal e = rw e (inl refl)
follows s (Close gone by) n row legal e = rw e (inl refl)
follows s (Shift device epoch mode second boot) n row legal e =
    elim (eqb_tells n device) [
      | inl h ↦ let here = rw h.1 at e in let meets = rw here at legal.row in rw (at_place_at device (shifted mode second boot) s.devices n row h.1 e) (shift_follows mode second boot row meets.1)
      | inr h ↦ rw (at_place-other device (shifted mode second boot) s.devices n h.1, e) (inl refl)
    ]

-- ---- nor does another number

pub index_rises : (s : GlobalState) (change : Change) → (effect s change).index ≡ s.index + 1
index_rises s (Renew by boot reading) = refl
index_rises s (Take by boot reading) = refl
index_rises s (Open node boot reading) = refl
index_rises s (Expire session term reading) = refl
index_rises s (Claim gone by) = refl
index_rises s (Close gone by) = refl
index_rises s (Shift device epoch mode second boot) = refl

pub term_rises : (s : GlobalState) (change : Change) → s.term ≤ (effect s change).term
term_rises s (Renew by boot reading) = omega arith
term_rises s (Take by boot reading) = omega arith
term_rises s (Open node boot reading) = omega arith
term_rises s (Expire session term reading) = omega arith
term_rises s (Claim gone by) = omega arith
term_rises s (Close gone by) = omega arith
term_rises s (Shift device epoch mode second boot) = omega arith

pub next_rises : (s : GlobalState) (change : Change) → s.next_session ≤ (effect s change).next_session
next_rises s (Renew by boot reading) = omega arith
next_rises s (Take by boot reading) = omega arith
next_rises s (Open node boot reading) = omega arith
next_rises s (Expire session term reading) = omega arith
next_rises s (Claim gone by) = omega arith
next_rises s (Close gone by) = omega arith
next_rises s (Shift device epoch mode second boot) = omega arith

pub term_end_rises : (s : GlobalState) (change : Change) → IsLegal s change → s.term_end ≤ (effect s change).term_end
term_end_rises s (Renew by boot reading) legal = omega arith
term_end_rises s (Take by boot reading) legal = omega (arith, legal.row.1)
term_end_rises s (Open node boot reading) legal = omega arith
term_end_rises s (Expire session term reading) legal = omega arith
term_end_rises s (Claim gone by) legal = omega arith
term_end_rises s (Close gone by) legal = omega arith
term_end_rises s (Shift device epoch mode second boot) legal = omega arith

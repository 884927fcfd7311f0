-- Of which boot a session is, along a chain that grows; and its rows in order.
use Rattle.std.proofs.Common.{◌≡◌, inl, inr, ℕ, ◌<◌, Bool, true, false, List, [], ◌∷◌, ◌++◌, refl, sym, ◌∙◌, ap, arith}
use Rattle.std.specs.Prelude.{◌==◌, not, if◌then◌else◌}
use Rattle.std.specs.List.{AllByRecursion}
use Rattle.std.proofs.lemmas.Bool.Decides.{nat_tests}
use Rattle.bx_global.specs.Allowed.{AreRising}
use Rattle.bx_global.specs.Table.{effect, opened}
use Rattle.bx_global.specs.declared.change.Change.{Change}
use Rattle.bx_global.specs.declared.change.Change.TheVariants.{Renew, Take, Open, Expire, Claim, Close, Shift}
use Rattle.bx_global.specs.declared.state.GlobalState.{GlobalState}
use Rattle.bx_global.proofs.Kept.{rising-filter, rising-map, rising-push}
use Rattle.bx_locking.proofs.Owned.{rows_came}
use Rattle.bx_locking.specs.Owned.{IsRowIn}
use Rattle.bx_rows.specs.Rows.{claimed, dead, expired}
use Rattle.bx_rows.specs.declared.session.SessionRow.{SessionRow}
use Rattle.bx_mirror_cluster.proofs.Sessions.{each_row, row_next}

-- ---- rows in order

number_expired : (session : ℕ) (row : SessionRow) → (expired session row).number ≡ row.number
number_expired session row = grind arith

number_claimed : (gone by : ℕ) (row : SessionRow) → (claimed gone by row).number ≡ row.number
number_claimed gone by row = grind arith

pub order_grows : (s : GlobalState) (change : Change) → AreRising s.sessions s.next_session → AreRising (effect s change).sessions (effect s change).next_session
order_grows s (Renew by boot reading) rising = rising
order_grows s (Take by boot reading) rising = rising-map dead (λ row. refl) s.sessions s.next_session rising
order_grows s (Open node boot reading) rising = rising-push s.sessions (opened s node boot reading) s.next_session refl rising
order_grows s (Expire session term reading) rising = rising-map (expired session) (number_expired session) s.sessions s.next_session rising
order_grows s (Claim gone by) rising = rising-map (claimed gone by) (number_claimed gone by) s.sessions s.next_session rising
order_grows s (Close gone by) rising = rising-filter (λ row. not (row.number == gone)) s.sessions s.next_session rising
order_grows s (Shift device epoch mode second boot) rising = rising

-- ---- boots

pub all_rows : (P : SessionRow → Type 0) (rows : List SessionRow) → ((row : SessionRow) → IsRowIn rows row → P row) → AllByRecursion P rows
all_rows P [] each = tt
all_rows P (row ∷ rows) each = (each row (inl refl), all_rows P rows (λ other has. each other (inr has)))

all_pushed : (P : SessionRow → Type 0) (rows : List SessionRow) (new : SessionRow) → AllByRecursion P rows → P new → AllByRecursion P (rows ++ new ∷ [])
all_pushed P [] new all is = (is, tt)
all_pushed P (row ∷ rows) new all is = (all.0, all_pushed P rows new all.1 is)

-- of which boot a session is, once the next one is opened
abbrev pub boot_opened : Change → ℕ
boot_opened (Renew by boot reading) = 0
boot_opened (Take by boot reading) = 0
boot_opened (Open node boot reading) = boot
boot_opened (Expire session term reading) = 0
boot_opened (Claim gone by) = 0
boot_opened (Close gone by) = 0
boot_opened (Shift device epoch mode second boot) = 0

abbrev pub boots_with : (ℕ → ℕ) → GlobalState → Change → ℕ → ℕ
boots_with f s change session = if session == s.next_session then boot_opened change else f session

pub boots_same : (f : ℕ → ℕ) (s : GlobalState) (change : Change) (session : ℕ) → session < s.next_session → boots_with f s change session ≡ f session
boots_same f s change session less = let e : (session == s.next_session) ≡ false = grind (arith, nat_tests, less) in ap (λ (b : Bool). if b then boot_opened change else f session) e

boots_next : (f : ℕ → ℕ) (s : GlobalState) (change : Change) → boots_with f s change s.next_session ≡ boot_opened change
boots_next f s change = let e : (s.next_session == s.next_session) ≡ true = grind (arith, nat_tests) in ap (λ (b : Bool). if b then boot_opened change else f s.next_session) e

module _ (f : ℕ → ℕ) (s : GlobalState) (change : Change) (rising : AreRising s.sessions s.next_session) where
  -- what holds of rows of numbers that were given out
  still_booted : (rows : List SessionRow) → ((row : SessionRow) → IsRowIn rows row → row.number < s.next_session) → AllByRecursion (λ row. row.boot ≡ f row.number) rows → AllByRecursion (λ row. row.boot ≡ boots_with f s change row.number) rows
  still_booted rows given all = all_rows (λ row. row.boot ≡ boots_with f s change row.number) rows
      (λ row has. each_row (λ r. r.boot ≡ f r.number) rows row all has ∙ sym (boots_same f s change row.number (given row has)))

  -- of a change that opens none
  none_opened : (effect s change).next_session ≡ s.next_session → AllByRecursion (λ row. row.boot ≡ f row.number) s.sessions → AreRising (effect s change).sessions (effect s change).next_session → AllByRecursion (λ row. row.boot ≡ boots_with f s change row.number) (effect s change).sessions
  none_opened same all then_rising = all_rows (λ row. row.boot ≡ boots_with f s change row.number) (effect s change).sessions (λ row has.
      let given = row_next (effect s change).sessions (effect s change).next_session row then_rising has in
      let less : row.number < s.next_session = omega (arith, given, same) in
      let k = (rows_came s change).each row has less in
      k.2.boot ∙ each_row (λ r. r.boot ≡ f r.number) s.sessions k.0 all k.1 ∙ ap f (sym k.2.number) ∙ sym (boots_same f s change row.number less))

pub boots_grow : (f : ℕ → ℕ) (s : GlobalState) (change : Change) → AreRising s.sessions s.next_session → AllByRecursion (λ row. row.boot ≡ f row.number) s.sessions → AllByRecursion (λ row. row.boot ≡ boots_with f s change row.number) (effect s change).sessions
boots_grow f s (Renew by boot reading) rising all = none_opened f s (Renew by boot reading) rising refl all rising
boots_grow f s (Take by boot reading) rising all = none_opened f s (Take by boot reading) rising refl all (order_grows s (Take by boot reading) rising)
boots_grow f s (Open node boot reading) rising all =
    all_pushed (λ row. row.boot ≡ boots_with f s (Open node boot reading) row.number) s.sessions (opened s node boot reading)
    (still_booted f s (Open node boot reading) rising s.sessions (λ row has. row_next s.sessions s.next_session row rising has) all) (sym (boots_next f s (Open node boot reading)))
boots_grow f s (Expire session term reading) rising all = none_opened f s (Expire session term reading) rising refl all (order_grows s (Expire session term reading) rising)
boots_grow f s (Claim gone by) rising all = none_opened f s (Claim gone by) rising refl all (order_grows s (Claim gone by) rising)
boots_grow f s (Close gone by) rising all = none_opened f s (Close gone by) rising refl all (order_grows s (Close gone by) rising)
boots_grow f s (Shift device epoch mode second boot) rising all = none_opened f s (Shift device epoch mode second boot) rising refl all rising

-- the boots of the rows of an allowed state, by number
abbrev pub boot_in_rows : List SessionRow → ℕ → ℕ
boot_in_rows [] session = 0
boot_in_rows (row ∷ rows) session = if session == row.number then row.boot else boot_in_rows rows session

pub rows_booted : (rows : List SessionRow) (next : ℕ) → AreRising rows next → AllByRecursion (λ row. row.boot ≡ boot_in_rows rows row.number) rows
rows_booted [] next rising = tt
rows_booted (row ∷ rows) next rising = (
  sym (let e : (row.number == row.number) ≡ true = grind (arith, nat_tests) in ap (λ (b : Bool). if b then row.boot else boot_in_rows rows row.number) e),
  all_rows (λ later. later.boot ≡ boot_in_rows (row ∷ rows) later.number) rows (λ later has.
      let above = each_row (λ r. row.number < r.number) rows later rising.1 has in
      each_row (λ r. r.boot ≡ boot_in_rows rows r.number) rows later (rows_booted rows next rising.2) has
      ∙ sym (let e : (later.number == row.number) ≡ false = grind (arith, nat_tests, above) in ap (λ (b : Bool). if b then row.boot else boot_in_rows rows later.number) e)),
)

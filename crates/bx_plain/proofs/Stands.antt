-- Rows go on standing.
use Rattle.std.proofs.Common.{◌≡◌, ◌≢◌, ℕ, ◌≤◌, ◌⊎◌, inl, inr, ⊎_elim, eqb, Bool, true, false, List, [], ◌∷◌, Option, Some, None, IsSome, refl, sym, ◌∙◌, ap, subst, arith}
use Rattle.std.proofs.lemmas.Bool.Decides.{nat_tests}
use Rattle.bx_base.specs.declared.names.Mode.{Mode}
use Rattle.bx_base.specs.declared.names.Mode.TheVariants.{Shared, Exclusive}
use Rattle.bx_facts.specs.Holds.{Hold, Holds, KeepsHolds, KeepsOthers}
use Rattle.bx_plain.specs.declared.rows.Row.{Row}
use Rattle.bx_plain.specs.Rows.{is_row, hold_of_row, hold_in, want_in, want_of_row, floor_in, lock_row, with_row, AllLet}
use Rattle.bx_plain.specs.Fits.{RowsStand}
use Rattle.bx_plain.proofs.Puts.{row_is, is_its_own, not_row, keys_of_row, held_here, held_beside, lets, floor_rises, floor_falls, floor_has, floor_beside}

-- what a row holds, where it holds
pub held_row : (row : Row) (hold : Hold) → hold_of_row row ≡ Some hold → (row.is_held ≡ true) × ((row.mode, row.index) ≡ hold)
held_row row hold e = by_test (row.is_held) refl
  where
    by_test : (b : Bool) → row.is_held ≡ b → (row.is_held ≡ true) × ((row.mode, row.index) ≡ hold)
    by_test true held = (held, (let h = rw held at e in cc))
    by_test false held = let h = rw held at e in absurd cc

-- what a session holds is what its row does
pub hold_of_its : (rows : List Row) (session block : ℕ) → hold_in rows session block ≡ hold_of_row (lock_row rows session block)
hold_of_its [] session block = refl
hold_of_its (row ∷ rows) session block = (elim (is_row session block row) as (λ b. is_row session block row ≡ b → hold_in (row ∷ rows) session block ≡ hold_of_row (lock_row (row ∷ rows) session block)) [
  | true ↦ λ t. rw t refl
  | false ↦ λ t. rw (t, hold_of_its rows session block) refl
]) refl

module _ (rows : List Row) (new : Row) (stand : RowsStand rows)
    (may : new.is_held ≡ true → AllLet new.session new.block new.mode rows)
    (reach : new.is_held ≡ true → floor_in (with_row rows new) new.block ≤ new.index)
    (floor_stays : (session block : ℕ) (hold : Hold) → is_row session block new ≡ false → hold_in rows session block ≡ Some hold → floor_in (with_row rows new) block ≤ floor_in rows block) where
  -- a hold afterwards is the new row's, or was there
  hold_cases : (session block : ℕ) (hold : Hold) → hold_in (with_row rows new) session block ≡ Some hold
      → ((new.session ≡ session) × (new.block ≡ block) × (new.is_held ≡ true) × ((new.mode, new.index) ≡ hold)) ⊎ ((is_row session block new ≡ false) × (hold_in rows session block ≡ Some hold))
  hold_cases session block hold e = by_test (is_row session block new) refl
    where
      by_test : (b : Bool) → is_row session block new ≡ b → ((new.session ≡ session) × (new.block ≡ block) × (new.is_held ≡ true) × ((new.mode, new.index) ≡ hold)) ⊎ ((is_row session block new ≡ false) × (hold_in rows session block ≡ Some hold))
      by_test true is =
          let keys = row_is session block new is in
          let here : hold_of_row new ≡ Some hold = sym (held_here rows new) ∙ subst (λ (s : ℕ). hold_in (with_row rows new) s new.block ≡ Some hold) (sym keys.0) (subst (λ (b : ℕ). hold_in (with_row rows new) session b ≡ Some hold) (sym keys.1) e) in
          let held = held_row new hold here in
          inl (keys.0, keys.1, held.0, held.1)
      by_test false other = inr (other, sym (held_beside rows new session block other) ∙ e)

  pub stands_with : RowsStand (with_row rows new)
  stands_with = record {
    apart = λ s t block hold other ne hs ht. pair s t block hold other ne (hold_cases s block hold hs) (hold_cases t block other ht);
    reaches = λ s block hold hs. reached s block hold (hold_cases s block hold hs);
  }
    where
      pair : (s t block : ℕ) (hold other : Hold) → s ≢ t
          → ((new.session ≡ s) × (new.block ≡ block) × (new.is_held ≡ true) × ((new.mode, new.index) ≡ hold)) ⊎ ((is_row s block new ≡ false) × (hold_in rows s block ≡ Some hold))
          → ((new.session ≡ t) × (new.block ≡ block) × (new.is_held ≡ true) × ((new.mode, new.index) ≡ other)) ⊎ ((is_row t block new ≡ false) × (hold_in rows t block ≡ Some other))
          → (hold.0 ≡ Shared) × (other.0 ≡ Shared)
      pair s t block hold other ne (inl mine) (inl yours) = absurd (ne (sym mine.0 ∙ yours.0))
      pair s t block hold other ne (inl mine) (inr yours) =
          let let_all = subst (λ (b : ℕ). AllLet new.session b new.mode rows) mine.1 (may mine.2) in
          let both = lets rows new.session t block new.mode other let_all (λ same. ne (sym mine.0 ∙ sym same)) yours.1 in
          (subst (λ (o : Hold). o.0 ≡ Shared) mine.3 both.1, both.0)
      pair s t block hold other ne (inr mine) (inl yours) =
          let let_all = subst (λ (b : ℕ). AllLet new.session b new.mode rows) yours.1 (may yours.2) in
          let both = lets rows new.session s block new.mode hold let_all (λ same. ne (same ∙ yours.0)) mine.1 in
          (both.0, subst (λ (o : Hold). o.0 ≡ Shared) yours.3 both.1)
      pair s t block hold other ne (inr mine) (inr yours) = stand.apart s t block hold other ne mine.1 yours.1

      reached : (s block : ℕ) (hold : Hold)
          → ((new.session ≡ s) × (new.block ≡ block) × (new.is_held ≡ true) × ((new.mode, new.index) ≡ hold)) ⊎ ((is_row s block new ≡ false) × (hold_in rows s block ≡ Some hold))
          → floor_in (with_row rows new) block ≤ hold.1
      reached s block hold (inl mine) = subst (λ (o : Hold). floor_in (with_row rows new) block ≤ o.1) mine.3 (subst (λ (b : ℕ). floor_in (with_row rows new) b ≤ new.index) mine.1 (reach mine.2))
      reached s block hold (inr mine) = let a = floor_stays s block hold mine.0 mine.1 in let b = stand.reaches s block hold mine.1 in omega (arith, a, b)

-- what a session wants and may hold is granted
module _ (rows : List Row) (session block index : ℕ) (row : Row) (its : row ≡ lock_row rows session block) (free : AllLet session block row.mode rows) (not_held : row.is_held ≡ false) (is : index ≡ floor_in rows block) where
  abbrev pub granted : Row
  granted = record row { index = index; is_held = true; is_wanted = false }

  keys : (row.session ≡ session) × (row.block ≡ block)
  keys = subst (λ (r : Row). (r.session ≡ session) × (r.block ≡ block)) (sym its) (keys_of_row rows session block)

  same_given : (lock_row rows row.session row.block).given ≡ row.given
  same_given = subst (λ (n : ℕ). (lock_row rows n row.block).given ≡ row.given) (sym keys.0) (subst (λ (n : ℕ). (lock_row rows session n).given ≡ row.given) (sym keys.1) (ap (λ (r : Row). r.given) (sym its)))

  pub grant_floors : (at : ℕ) → floor_in (with_row rows granted) at ≡ floor_in rows at
  grant_floors at =
      let up = floor_rises rows granted at (omega (arith, same_given)) in
      let down = floor_falls rows granted at (omega (arith, same_given)) in
      omega (arith, up, down)

  pub grant_stands : RowsStand rows → RowsStand (with_row rows granted)
  grant_stands stand = stands_with rows granted stand
      (λ held. subst (λ (s : ℕ). AllLet s row.block row.mode rows) (sym keys.0) (subst (λ (b : ℕ). AllLet session b row.mode rows) (sym keys.1) free))
      (λ held. let e = grant_floors row.block in let b = ap (λ (n : ℕ). floor_in rows n) keys.1 in omega (arith, e, b, is))
      (λ s b hold other held. let e = grant_floors b in omega (arith, e))

  pub grant_keeps : KeepsHolds (hold_in rows) (hold_in (with_row rows granted))
  grant_keeps = record { each = λ s b hold held. by_test s b hold held (is_row s b granted) refl }
    where
      by_test : (s b : ℕ) (hold : Hold) → hold_in rows s b ≡ Some hold → (t : Bool) → is_row s b granted ≡ t → hold_in (with_row rows granted) s b ≡ Some hold
      by_test s b hold held true is_its =
          let e = row_is s b granted is_its in
          let nothing : hold_in rows session block ≡ None = hold_of_its rows session block ∙ subst (λ (r : Row). hold_of_row r ≡ None) its (rw not_held refl) in
          let there : hold_in rows session block ≡ Some hold = subst (λ (n : ℕ). hold_in rows n block ≡ Some hold) (sym e.0 ∙ keys.0) (subst (λ (n : ℕ). hold_in rows s n ≡ Some hold) (sym e.1 ∙ keys.1) held) in
          let both = sym nothing ∙ there in
          absurd cc
      by_test s b hold held false other = held_beside rows granted s b other ∙ held

-- a test of numbers, with what it says
pub decide : (a b : ℕ) → (a ≡ b) ⊎ (a ≢ b)
decide a b = by_test (eqb a b) refl
  where
    by_test : (t : Bool) → eqb a b ≡ t → (a ≡ b) ⊎ (a ≢ b)
    by_test true same = inl (grind (arith, nat_tests, same))
    by_test false other = inr (λ same. grind (arith, nat_tests, other, same))

-- what a session holds of other blocks, and what others hold, stays where a row of it is put
pub others_stay : (rows : List Row) (new : Row) → KeepsOthers new.session new.block (hold_in rows) (hold_in (with_row rows new))
others_stay rows new = record {
  other_sessions = λ other at hold ne held. held_beside rows new other at (not_row other at new (inl (λ same. ne (sym same)))) ∙ held;
  other_blocks = λ at hold ne held. held_beside rows new new.session at (not_row new.session at new (inr (λ same. ne (sym same)))) ∙ held;
}

-- a want is put, and granted where it may be
module _ (rows : List Row) (session block index : ℕ) (mode : Mode) (row : Row) (free wanted : Bool) (its : row ≡ lock_row rows session block) (is : index ≡ floor_in rows block) (may : free ≡ true → AllLet session block mode rows) where
  abbrev pub asked : Row
  asked = record row { mode = mode; index = index; is_held = free; is_wanted = wanted }

  want_keys : (row.session ≡ session) × (row.block ≡ block)
  want_keys = subst (λ (r : Row). (r.session ≡ session) × (r.block ≡ block)) (sym its) (keys_of_row rows session block)

  want_given : (lock_row rows row.session row.block).given ≡ row.given
  want_given = subst (λ (n : ℕ). (lock_row rows n row.block).given ≡ row.given) (sym want_keys.0) (subst (λ (n : ℕ). (lock_row rows session n).given ≡ row.given) (sym want_keys.1) (ap (λ (r : Row). r.given) (sym its)))

  pub want_floors : (at : ℕ) → floor_in (with_row rows asked) at ≡ floor_in rows at
  want_floors at =
      let up = floor_rises rows asked at (omega (arith, want_given)) in
      let down = floor_falls rows asked at (omega (arith, want_given)) in
      omega (arith, up, down)

  pub want_stands : RowsStand rows → RowsStand (with_row rows asked)
  want_stands stand = stands_with rows asked stand
      (λ held. subst (λ (s : ℕ). AllLet s row.block mode rows) (sym want_keys.0) (subst (λ (b : ℕ). AllLet session b mode rows) (sym want_keys.1) (may held)))
      (λ held. let e = want_floors row.block in let b = ap (λ (n : ℕ). floor_in rows n) want_keys.1 in omega (arith, e, b, is))
      (λ s b hold other held. let e = want_floors b in omega (arith, e))

  pub want_keeps : KeepsOthers session block (hold_in rows) (hold_in (with_row rows asked))
  want_keeps = subst (λ (s : ℕ). KeepsOthers s block (hold_in rows) (hold_in (with_row rows asked))) want_keys.0
      (subst (λ (b : ℕ). KeepsOthers row.session b (hold_in rows) (hold_in (with_row rows asked))) want_keys.1 (others_stay rows asked))

-- a block is given up
module _ (rows : List Row) (session block given : ℕ) (row : Row) (its : row ≡ lock_row rows session block) (held : row.is_held ≡ true) (more : row.given ≤ given) (shared : row.mode ≡ Shared → given ≡ row.given) where
  abbrev pub let_go : Row
  let_go = record row { is_held = false; is_wanted = false; given = given }

  go_keys : (row.session ≡ session) × (row.block ≡ block)
  go_keys = subst (λ (r : Row). (r.session ≡ session) × (r.block ≡ block)) (sym its) (keys_of_row rows session block)

  go_given : (lock_row rows row.session row.block).given ≡ row.given
  go_given = subst (λ (n : ℕ). (lock_row rows n row.block).given ≡ row.given) (sym go_keys.0) (subst (λ (n : ℕ). (lock_row rows session n).given ≡ row.given) (sym go_keys.1) (ap (λ (r : Row). r.given) (sym its)))

  its_hold : hold_in rows session block ≡ Some (row.mode, row.index)
  its_hold = hold_of_its rows session block ∙ subst (λ (r : Row). hold_of_row r ≡ Some (row.mode, row.index)) its (rw held refl)

  pub go_rises : (at : ℕ) → floor_in rows at ≤ floor_in (with_row rows let_go) at
  go_rises at = floor_rises rows let_go at (omega (arith, go_given, more))

  pub go_has : given ≤ floor_in (with_row rows let_go) block
  go_has = subst (λ (b : ℕ). given ≤ floor_in (with_row rows let_go) b) go_keys.1 (floor_has rows let_go)

  pub go_stands : RowsStand rows → RowsStand (with_row rows let_go)
  go_stands stand = stands_with rows let_go stand (λ no. absurd cc) (λ no. absurd cc) floors
    where
      mode_cases : (mode : Mode) → row.mode ≡ mode → (s b : ℕ) (hold : Hold) → is_row s b let_go ≡ false → hold_in rows s b ≡ Some hold → b ≡ block → floor_in (with_row rows let_go) b ≤ floor_in rows b
      mode_cases Shared is s b hold other there same = floor_falls rows let_go b (let e = shared is in omega (arith, e, go_given))
      mode_cases Exclusive is s b hold other there same =
          let apart : s ≢ session = (λ one. let yes = is_its_own row in let no = subst (λ (n : ℕ). is_row n row.block row ≡ false) (one ∙ sym go_keys.0) (subst (λ (n : ℕ). is_row s n row ≡ false) (same ∙ sym go_keys.1) other) in let both = sym no ∙ yes in absurd cc) in
          let both = stand.apart s session block hold (row.mode, row.index) apart (subst (λ (n : ℕ). hold_in rows s n ≡ Some hold) same there) its_hold in
          let wrong = sym is ∙ both.1 in absurd cc

      floors : (s b : ℕ) (hold : Hold) → is_row s b let_go ≡ false → hold_in rows s b ≡ Some hold → floor_in (with_row rows let_go) b ≤ floor_in rows b
      floors s b hold other there = ⊎_elim
          (λ same. mode_cases row.mode refl s b hold other there same)
          (λ apart. let e = floor_beside rows let_go b (λ one. apart (one ∙ go_keys.1)) in omega (arith, e))
          (decide b block)

  pub go_keeps : KeepsOthers session block (hold_in rows) (hold_in (with_row rows let_go))
  go_keeps = subst (λ (s : ℕ). KeepsOthers s block (hold_in rows) (hold_in (with_row rows let_go))) go_keys.0
      (subst (λ (b : ℕ). KeepsOthers row.session b (hold_in rows) (hold_in (with_row rows let_go))) go_keys.1 (others_stay rows let_go))

-- what is kept by one call and by the next is kept by both
pub keeps_then : (a b c : Holds) → KeepsHolds a b → KeepsHolds b c → KeepsHolds a c
keeps_then a b c one two = record { each = λ session block hold held. two.each session block hold (one.each session block hold held) }

pub keeps_none : (a : Holds) → KeepsHolds a a
keeps_none a = record { each = λ session block hold held. held }

pub others_then : (a b c : Holds) (session block : ℕ) → KeepsOthers session block a b → KeepsHolds b c → KeepsOthers session block a c
others_then a b c session block one two = record {
  other_sessions = λ other at hold ne held. two.each other at hold (one.other_sessions other at hold ne held);
  other_blocks = λ at hold ne held. two.each session at hold (one.other_blocks at hold ne held);
}

-- a row that holds something is held
pub is_held_row : (rows : List Row) (session block : ℕ) (row : Row) → row ≡ lock_row rows session block → IsSome (hold_in rows session block) → row.is_held ≡ true
is_held_row rows session block row its some = by_test row.is_held refl
  where
    by_test : (b : Bool) → row.is_held ≡ b → row.is_held ≡ true
    by_test true held = held
    by_test false held =
        let none : hold_in rows session block ≡ None = hold_of_its rows session block ∙ subst (λ (r : Row). hold_of_row r ≡ None) its (rw held refl) in
        let wrong = subst (λ (o : Option Hold). IsSome o) none some in
        absurd cc

pub mode_of_hold : (rows : List Row) (session block at : ℕ) (mode : Mode) (row : Row) → row ≡ lock_row rows session block → hold_in rows session block ≡ Some (mode, at) → row.mode ≡ mode
mode_of_hold rows session block at mode row its held =
    let there : hold_of_row row ≡ Some (mode, at) = subst (λ (r : Row). hold_of_row r ≡ Some (mode, at)) (sym its) (sym (hold_of_its rows session block) ∙ held) in
    ap (λ (o : Hold). o.0) (held_row row (mode, at) there).1

pub want_of_its : (rows : List Row) (session block : ℕ) → want_in rows session block ≡ want_of_row (lock_row rows session block)
want_of_its [] session block = refl
want_of_its (row ∷ rows) session block = (elim (is_row session block row) as (λ b. is_row session block row ≡ b → want_in (row ∷ rows) session block ≡ want_of_row (lock_row (row ∷ rows) session block)) [
  | true ↦ λ t. rw t refl
  | false ↦ λ t. rw (t, want_of_its rows session block) refl
]) refl

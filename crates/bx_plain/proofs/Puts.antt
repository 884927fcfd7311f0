-- Rows: what putting one changes.
use Rattle.std.proofs.Common.{◌≡◌, ◌≢◌, ℕ, suc, ◌<◌, ◌≤◌, ◌⊎◌, inl, inr, Bool, true, false, cond, eqb, ltb, List, [], ◌∷◌, ◌++◌, length, set, max, Option, Some, None, refl, sym, ◌∙◌, subst, arith}
use Rattle.std.specs.Prelude.{option_map}
use Rattle.std.proofs.lemmas.Bool.Decides.{nat_tests}
use Rattle.bx_base.specs.declared.names.Mode.{Mode}
use Rattle.bx_base.specs.declared.names.Mode.TheVariants.{Shared}
use Rattle.bx_facts.specs.Holds.{Hold}
use Rattle.bx_plain.specs.declared.rows.Row.{Row}
use Rattle.bx_plain.specs.Tables.{AreOf}
use Rattle.bx_plain.specs.Rows.{is_row, hold_of_row, hold_in, place_in, floor_in, lock_row, with_row, AllLet, Lets}

mapped : (o : Option ℕ) (p : ℕ) → option_map suc o ≡ Some p → (q : ℕ) × (o ≡ Some q) × (suc q ≡ p)
mapped None p e = absurd cc
mapped (Some q) p e = (q, refl, cc)

unmapped : (o : Option ℕ) → option_map suc o ≡ None → o ≡ None
unmapped None e = refl
unmapped (Some q) e = absurd cc

-- ---- tests of rows

pub is_its_own : (row : Row) → is_row row.session row.block row ≡ true
is_its_own row = grind (arith, nat_tests)

pub row_is : (session block : ℕ) (row : Row) → is_row session block row ≡ true → (row.session ≡ session) × (row.block ≡ block)
row_is session block row is = (grind (arith, nat_tests, is), grind (arith, nat_tests, is))

pub not_row : (session block : ℕ) (row : Row) → (row.session ≢ session) ⊎ (row.block ≢ block) → is_row session block row ≡ false
not_row session block row (inl other) = grind (arith, nat_tests, other)
not_row session block row (inr other) = grind (arith, nat_tests, other)

-- ---- where it stands, among rows of its block

pub record ReplacesAt (rows : List Row) (new : Row) (p : ℕ) : Type 0 where
  pub there : p < length rows
  pub put : with_row rows new ≡ set rows p new

pub not_above : (row new : Row) → row.block ≡ new.block → ltb new.block row.block ≡ false
not_above row new same = grind (arith, nat_tests, same)

pub put_there : (rows : List Row) (new : Row) (p : ℕ) → AreOf new.block rows → place_in rows new.session new.block ≡ Some p → ReplacesAt rows new p
put_there [] new p are e = absurd cc
put_there (row ∷ rows) new p are e = (elim (is_row new.session new.block row) as (λ b. is_row new.session new.block row ≡ b → ReplacesAt (row ∷ rows) new p) [
  | true ↦ λ t.
      let z : 0 ≡ p = let h = rw t at e in cc in
      subst (λ (n : ℕ). ReplacesAt (row ∷ rows) new n) z (record { there = omega arith; put = rw t refl })
  | false ↦ λ t.
      let q = mapped (place_in rows new.session new.block) p (rw t at e) in
      let r = put_there rows new q.0 are.1 q.1 in
      subst (λ (n : ℕ). ReplacesAt (row ∷ rows) new n) q.2 (record { there = omega (arith, r.there); put = rw (t, not_above row new are.0, r.put) refl })
]) refl

pub put_behind : (rows : List Row) (new : Row) → AreOf new.block rows → place_in rows new.session new.block ≡ None → with_row rows new ≡ rows ++ new ∷ []
put_behind [] new are e = refl
put_behind (row ∷ rows) new are e = (elim (is_row new.session new.block row) as (λ b. is_row new.session new.block row ≡ b → with_row (row ∷ rows) new ≡ (row ∷ rows) ++ new ∷ []) [
  | true ↦ λ t. let h = rw t at e in absurd cc
  | false ↦ λ t. rw (t, not_above row new are.0, put_behind rows new are.1 (unmapped (place_in rows new.session new.block) (rw t at e))) refl
]) refl

-- ---- what is held

pub held_here : (rows : List Row) (new : Row) → hold_in (with_row rows new) new.session new.block ≡ hold_of_row new
held_here [] new = rw (is_its_own new) refl
held_here (row ∷ rows) new = (elim (is_row new.session new.block row) as (λ b. is_row new.session new.block row ≡ b → hold_in (with_row (row ∷ rows) new) new.session new.block ≡ hold_of_row new) [
  | true ↦ λ t. rw (t, is_its_own new) refl
  | false ↦ λ t. (elim (ltb new.block row.block) as (λ b. ltb new.block row.block ≡ b → hold_in (with_row (row ∷ rows) new) new.session new.block ≡ hold_of_row new) [
    | true ↦ λ l. rw (t, l, is_its_own new) refl
    | false ↦ λ l. rw (t, l, t, held_here rows new) refl
  ]) refl
]) refl

-- a row that is of the same session and block as another passes the same tests
pub same_test : (session block : ℕ) (row new : Row) → is_row new.session new.block row ≡ true → is_row session block row ≡ is_row session block new
same_test session block row new is = let e = row_is new.session new.block row is in rw (e.0, e.1) refl

pub held_beside : (rows : List Row) (new : Row) (session block : ℕ) → is_row session block new ≡ false → hold_in (with_row rows new) session block ≡ hold_in rows session block
held_beside [] new session block other = rw other refl
held_beside (row ∷ rows) new session block other = (elim (is_row new.session new.block row) as (λ b. is_row new.session new.block row ≡ b → hold_in (with_row (row ∷ rows) new) session block ≡ hold_in (row ∷ rows) session block) [
  | true ↦ λ t. rw (t, other, same_test session block row new t ∙ other) refl
  | false ↦ λ t. (elim (ltb new.block row.block) as (λ b. ltb new.block row.block ≡ b → hold_in (with_row (row ∷ rows) new) session block ≡ hold_in (row ∷ rows) session block) [
    | true ↦ λ l. rw (t, l, other) refl
    | false ↦ λ l. rw (t, l, held_beside rows new session block other) refl
  ]) refl
]) refl

-- who may hold lets all others do so
pub lets : (rows : List Row) (session other block : ℕ) (mode : Mode) (hold : Hold) → AllLet session block mode rows → other ≢ session → hold_in rows other block ≡ Some hold → (hold.0 ≡ Shared) × (mode ≡ Shared)
lets [] session other block mode hold all ne held = absurd cc
lets (row ∷ rows) session other block mode hold all ne held = (elim (is_row other block row) as (λ b. is_row other block row ≡ b → (hold.0 ≡ Shared) × (mode ≡ Shared)) [
  | true ↦ λ t. let e = row_is other block row t in by_row (row.is_held) refl e.0 e.1 (rw t at held) all.0
  | false ↦ λ t. lets rows session other block mode hold all.1 ne (rw t at held)
]) refl
  where
    by_row : (b : Bool) → row.is_held ≡ b → row.session ≡ other → row.block ≡ block → hold_of_row row ≡ Some hold → Lets session block mode row → (hold.0 ≡ Shared) × (mode ≡ Shared)
    by_row false not_held s b is let_row = let h = rw not_held at is in absurd cc
    by_row true held s b is (inl free) = absurd (let h = held in cc)
    by_row true held s b is (inr (inl mine)) = absurd (ne (sym s ∙ mine))
    by_row true held s b is (inr (inr (inl elsewhere))) = absurd (elsewhere b)
    by_row true held s b is (inr (inr (inr both))) =
        let same : (row.mode, row.index) ≡ hold = (let h = rw held at is in cc) in
        (subst (λ (o : Hold). o.0 ≡ Shared) same both.0, both.1)

-- ---- floors

pub keys_of_row : (rows : List Row) (session block : ℕ) → ((lock_row rows session block).session ≡ session) × ((lock_row rows session block).block ≡ block)
keys_of_row [] session block = (refl, refl)
keys_of_row (row ∷ rows) session block = (elim (is_row session block row) as (λ b. is_row session block row ≡ b → ((lock_row (row ∷ rows) session block).session ≡ session) × ((lock_row (row ∷ rows) session block).block ≡ block)) [
  | true ↦ λ t. let e = row_is session block row t in rw t e
  | false ↦ λ t. rw t (keys_of_row rows session block)
]) refl

pub floor_rises : (rows : List Row) (new : Row) (block : ℕ) → (lock_row rows new.session new.block).given ≤ new.given → floor_in rows block ≤ floor_in (with_row rows new) block
floor_rises [] new block le = omega arith
floor_rises (row ∷ rows) new block le = (elim (is_row new.session new.block row) as (λ b. is_row new.session new.block row ≡ b → floor_in (row ∷ rows) block ≤ floor_in (with_row (row ∷ rows) new) block) [
  | true ↦ λ t. let e = row_is new.session new.block row t in let less = rw t at le in rw (t, e.1) (by_test (eqb new.block block) less)
  | false ↦ λ t. let less = rw t at le in (elim (ltb new.block row.block) as (λ b. ltb new.block row.block ≡ b → floor_in (row ∷ rows) block ≤ floor_in (with_row (row ∷ rows) new) block) [
    | true ↦ λ l. rw (t, l) (omega arith)
    | false ↦ λ l. let more = floor_rises rows new block less in rw (t, l) (omega (arith, more))
  ]) refl
]) refl
  where
    by_test : (b : Bool) → row.given ≤ new.given → max (cond b row.given 0) (floor_in rows block) ≤ max (cond b new.given 0) (floor_in rows block)
    by_test true less = omega (arith, less)
    by_test false less = omega arith

row_floor : (rows : List Row) (session block : ℕ) → (lock_row rows session block).given ≤ floor_in rows block
row_floor [] session block = omega arith
row_floor (row ∷ rows) session block = (elim (is_row session block row) as (λ b. is_row session block row ≡ b → (lock_row (row ∷ rows) session block).given ≤ floor_in (row ∷ rows) block) [
  | true ↦ λ t. let e : eqb row.block block ≡ true = let its = (row_is session block row t).1 in grind (arith, nat_tests, its) in rw (t, e) (omega arith)
  | false ↦ λ t. let more = row_floor rows session block in rw t (omega (arith, more))
]) refl

given_floor : (rows : List Row) (new : Row) (block : ℕ) → new.given ≤ (lock_row rows new.session new.block).given → cond (eqb new.block block) new.given 0 ≤ floor_in rows block
given_floor rows new block le = by_test (eqb new.block block) refl
  where
    by_test : (b : Bool) → eqb new.block block ≡ b → cond b new.given 0 ≤ floor_in rows block
    by_test true is =
        let same : new.block ≡ block = grind (arith, nat_tests, is) in
        let more = row_floor rows new.session new.block in
        subst (λ (n : ℕ). new.given ≤ floor_in rows n) same (omega (arith, le, more))
    by_test false apart = omega arith

pub floor_falls : (rows : List Row) (new : Row) (block : ℕ) → new.given ≤ (lock_row rows new.session new.block).given → floor_in (with_row rows new) block ≤ floor_in rows block
floor_falls [] new block le = by_test (eqb new.block block) le
  where
    by_test : (b : Bool) → new.given ≤ 0 → max (cond b new.given 0) 0 ≤ 0
    by_test true less = omega (arith, less)
    by_test false less = omega arith
floor_falls (row ∷ rows) new block le = (elim (is_row new.session new.block row) as (λ b. is_row new.session new.block row ≡ b → floor_in (with_row (row ∷ rows) new) block ≤ floor_in (row ∷ rows) block) [
  | true ↦ λ t. let e = row_is new.session new.block row t in let less = rw t at le in rw (t, e.1) (by_test (eqb new.block block) less)
  | false ↦ λ t. let less = rw t at le in (elim (ltb new.block row.block) as (λ b. ltb new.block row.block ≡ b → floor_in (with_row (row ∷ rows) new) block ≤ floor_in (row ∷ rows) block) [
    | true ↦ λ l. let its = given_floor (row ∷ rows) new block le in rw (t, l) (omega (arith, its))
    | false ↦ λ l. let more = floor_falls rows new block less in rw (t, l) (omega (arith, more))
  ]) refl
]) refl
  where
    by_test : (b : Bool) → new.given ≤ row.given → max (cond b new.given 0) (floor_in rows block) ≤ max (cond b row.given 0) (floor_in rows block)
    by_test true less = omega (arith, less)
    by_test false less = omega arith

pub floor_has : (rows : List Row) (new : Row) → new.given ≤ floor_in (with_row rows new) new.block
floor_has [] new = let e : eqb new.block new.block ≡ true = grind (arith, nat_tests) in rw e (omega arith)
floor_has (row ∷ rows) new = (elim (is_row new.session new.block row) as (λ b. is_row new.session new.block row ≡ b → new.given ≤ floor_in (with_row (row ∷ rows) new) new.block) [
  | true ↦ λ t. let e : eqb new.block new.block ≡ true = grind (arith, nat_tests) in rw (t, e) (omega arith)
  | false ↦ λ t. (elim (ltb new.block row.block) as (λ b. ltb new.block row.block ≡ b → new.given ≤ floor_in (with_row (row ∷ rows) new) new.block) [
    | true ↦ λ l. let e : eqb new.block new.block ≡ true = grind (arith, nat_tests) in rw (t, l, e) (omega arith)
    | false ↦ λ l. let more = floor_has rows new in rw (t, l) (omega (arith, more))
  ]) refl
]) refl

pub floor_beside : (rows : List Row) (new : Row) (block : ℕ) → block ≢ new.block → floor_in (with_row rows new) block ≡ floor_in rows block
floor_beside [] new block other = let e : eqb new.block block ≡ false = grind (arith, nat_tests, other) in rw e refl
floor_beside (row ∷ rows) new block other = (elim (is_row new.session new.block row) as (λ b. is_row new.session new.block row ≡ b → floor_in (with_row (row ∷ rows) new) block ≡ floor_in (row ∷ rows) block) [
  | true ↦ λ t. let same = row_is new.session new.block row t in let e : eqb new.block block ≡ false = grind (arith, nat_tests, other) in rw (t, same.1, e) refl
  | false ↦ λ t. (elim (ltb new.block row.block) as (λ b. ltb new.block row.block ≡ b → floor_in (with_row (row ∷ rows) new) block ≡ floor_in (row ∷ rows) block) [
    | true ↦ λ l. let e : eqb new.block block ≡ false = grind (arith, nat_tests, other) in rw (t, l, e) (omega arith)
    | false ↦ λ l. rw (t, l, floor_beside rows new block other) refl
  ]) refl
]) refl

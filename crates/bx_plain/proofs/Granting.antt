-- Wants that are granted, and wants that wait.
use Rattle.std.proofs.Common.{◌≡◌, ◌≢◌, ◌⊎◌, inl, inr, ⊎_elim, ℕ, zero, suc, ◌+◌, ◌<◌, ◌≤◌, ◌==◌, ltb, Bool, true, false, List, [], ◌∷◌, length, Option, Some, None, refl, sym, ◌∙◌, ap, subst, arith}
use Rattle.std.specs.Prelude.{IfSome, IsSome, IsSomeAnd, if◌then◌else◌, map, nat_lt, not, slice_index, slice_index_or}
use Rattle.std.proofs.lemmas.Bool.Decides.{nat_tests}
use Rattle.bx_base.specs.declared.names.Mode.{Mode}
use Rattle.bx_facts.specs.Holds.{Hold, Holds, hold_of}
use Rattle.bx_plain.specs.declared.rows.Row.{Row}
use Rattle.bx_plain.specs.Fits.{own_in}
use Rattle.bx_plain.specs.Grants.{Grants, IsAlike, IsAnswered, IsGone, IsGranted, IsLeft, NoneLeft, Passes}
use Rattle.bx_plain.specs.Rows.{AllLet, Lets, floor_in, hold_in, is_row, lock_row, rows_at, sessions_at, want_in, with_row}
use Rattle.bx_plain.proofs.Puts.{held_beside, not_row, row_is}
use Rattle.bx_plain.proofs.Stands.{asked, decide, grant_floors, granted}
use Rattle.bx_plain.proofs.Wants.{held_as, hold_of_new, its_block, its_session, not_held, not_wanted, want_beside, want_of_new, wanted_as, was_true}

-- ---- what others hold

-- where a row is put in the place of one that let a session hold a block where it does, what lets the session hold it let it before
pub lets_put : (rows : List Row) (new : Row) (session block : ℕ) (mode : Mode) → (Lets session block mode new → Lets session block mode (lock_row rows new.session new.block)) → AllLet session block mode (with_row rows new) → AllLet session block mode rows
lets_put [] new session block mode free lets = tt
lets_put (row ∷ rows) new session block mode free lets = (elim (is_row new.session new.block row) as (λ b. is_row new.session new.block row ≡ b → AllLet session block mode (row ∷ rows)) [
  | true ↦ λ t. (
    (let f = rw t at free in f) (let h = rw t at lets in h).0,
    (let h = rw t at lets in h).1,
  )
  | false ↦ λ t. let f = rw t at free in (elim (ltb new.block row.block) as (λ b. ltb new.block row.block ≡ b → AllLet session block mode (row ∷ rows)) [
    | true ↦ λ l. let h = rw (t, l) at lets in h.1
    | false ↦ λ l. let h = rw (t, l) at lets in (h.0, lets_put rows new session block mode f h.1)
  ]) refl
]) refl

-- ---- a want is granted

module _ (rows : List Row) (session block index : ℕ) (row : Row) (its : row ≡ lock_row rows session block) (free : AllLet session block row.mode rows) (unheld : row.is_held ≡ false) (is : index ≡ floor_in rows block) (wanted : row.is_wanted ≡ true) where
  abbrev put : Row
  put = granted rows session block index row its free unheld is

  abbrev pub new : List Row
  new = with_row rows put

  key : (put.session ≡ session) × (put.block ≡ block)
  key = (its_session rows session block row its, its_block rows session block row its)

  its_row : lock_row rows put.session put.block ≡ row
  its_row =
      let P : ℕ → Type 0 = λ n. lock_row rows n put.block ≡ row in
      let Q : ℕ → Type 0 = λ n. lock_row rows session n ≡ row in
      subst P (sym key.0) (subst Q (sym key.1) (sym its))

  -- what the granted row lets another session have, the row let it have that waited
  lets_granted : (other at : ℕ) (mode : Mode) → Lets other at mode put → Lets other at mode row
  lets_granted other at mode (inl free) = absurd (let h = free in cc)
  lets_granted other at mode (inr lets) = inr lets

  here : IsGranted rows new session block
  here = record {
    mode = row.mode;
    wanted = sym (wanted_as rows session block row its wanted);
    not_held = not_held rows session block row its unheld;
    held = hold_of_new rows session block row its put refl refl ∙ ap (λ (n : ℕ). Some (row.mode, n)) (is ∙ sym (grant_floors rows session block index row its free unheld is block));
    over = want_of_new rows session block row its put refl refl;
  }

  pub grant_passes : Passes block rows new
  grant_passes = record {
    each = λ other at. by_row other at (is_row other at put) refl;
    floors = grant_floors rows session block index row its free unheld is;
    fewer = λ other mode. lets_put rows put other block mode (λ lets. subst (λ (r : Row). Lets other block mode r) (sym its_row) (lets_granted other block mode lets));
    free = λ other mode want none. of_free other mode want none (is_row other block put) refl;
  }
    where
      by_row : (other at : ℕ) (t : Bool) → is_row other at put ≡ t → IsAlike rows new other at ⊎ ((at ≡ block) × IsGranted rows new other at)
      by_row other at true same =
          let keys = row_is other at put same in
          let session_is : session ≡ other = sym key.0 ∙ keys.0 in
          let block_is : block ≡ at = sym key.1 ∙ keys.1 in
          let P : ℕ → Type 0 = λ n. IsGranted rows new n at in
          let Q : ℕ → Type 0 = λ n. IsGranted rows new session n in
          inr (sym block_is, subst P session_is (subst Q block_is here))
      by_row other at false apart = inl (record { hold = held_beside rows put other at apart; want = want_beside rows put other at apart })

      of_free : (other : ℕ) (mode : Mode) → want_in rows other block ≡ Some mode → want_in new other block ≡ None → (t : Bool) → is_row other block put ≡ t → AllLet other block mode rows
      of_free other mode want none true same =
          let session_is : session ≡ other = sym key.0 ∙ (row_is other block put same).0 in
          let W : ℕ → Type 0 = λ n. want_in rows n block ≡ Some mode in
          let mode_is : row.mode ≡ mode = (let h = wanted_as rows session block row its wanted ∙ subst W (sym session_is) want in cc) in
          let P : ℕ → Type 0 = λ n. AllLet n block mode rows in
          subst P session_is (subst (λ (m : Mode). AllLet session block m rows) mode_is free)
      of_free other mode want none false apart = absurd (let h = sym want ∙ sym (want_beside rows put other block apart) ∙ none in cc)

  pub grant_none_left : IsLeft new session block → ⊥
  grant_none_left left = let h = sym here.over ∙ left.wanted in absurd cc

pub was_false : (b : Bool) → not b ≡ true → b ≡ false
was_false false is = refl
was_false true is = absurd cc

-- a want that isn't one, or that isn't free, isn't left
pub none_wanted : (rows : List Row) (session block : ℕ) (row : Row) → row ≡ lock_row rows session block → row.is_wanted ≡ false → IsLeft rows session block → ⊥
none_wanted rows session block row its idle left = let h = sym (not_wanted rows session block row its idle) ∙ left.wanted in absurd cc

pub none_unheld : (rows : List Row) (session block : ℕ) (row : Row) → row ≡ lock_row rows session block → row.is_held ≡ true → IsLeft rows session block → ⊥
none_unheld rows session block row its held left = let h = held_as rows session block row its held ∙ left.not_held in absurd cc

pub none_free : (rows : List Row) (session block : ℕ) (row : Row) → row ≡ lock_row rows session block → (not row.is_wanted) ≡ false → (AllLet session block row.mode rows → ⊥) → IsLeft rows session block → ⊥
none_free rows session block row its wanted blocked left =
    let is : row.is_wanted ≡ true = was_true row.is_wanted wanted in
    let mode_is : left.mode ≡ row.mode = (let h = sym left.wanted ∙ sym (wanted_as rows session block row its is) in cc) in
    blocked (subst (λ (m : Mode). AllLet session block m rows) mode_is left.free)

-- ---- one call and the next

pub passes_none : (block : ℕ) (rows : List Row) → Passes block rows rows
passes_none block rows = record {
  each = λ other at. inl (record { hold = refl; want = refl });
  floors = λ at. refl;
  fewer = λ other mode lets. lets;
  free = λ other mode want none. absurd (let h = sym want ∙ none in cc);
}

module _ (block : ℕ) (a b c : List Row) (one : Passes block a b) (two : Passes block b c) where
  each_then : (other at : ℕ) → IsAlike a b other at ⊎ ((at ≡ block) × IsGranted a b other at) → IsAlike b c other at ⊎ ((at ≡ block) × IsGranted b c other at) → IsAlike a c other at ⊎ ((at ≡ block) × IsGranted a c other at)
  each_then other at (inl first) (inl next) = inl (record { hold = next.hold ∙ first.hold; want = next.want ∙ first.want })
  each_then other at (inl first) (inr (same, g)) = inr (same, record { mode = g.mode; wanted = sym first.want ∙ g.wanted; not_held = sym first.hold ∙ g.not_held; held = g.held; over = g.over })
  each_then other at (inr (same, g)) (inl next) = inr (same, record { mode = g.mode; wanted = g.wanted; not_held = g.not_held; held = next.hold ∙ g.held ∙ ap (λ (n : ℕ). Some (g.mode, n)) (sym (two.floors at)); over = next.want ∙ g.over })
  each_then other at (inr (same, g)) (inr (too, k)) = absurd (let h = sym g.over ∙ k.wanted in cc)

  free_then : (other : ℕ) (mode : Mode) → want_in a other block ≡ Some mode → want_in c other block ≡ None → AllLet other block mode a
  free_then other mode want none = ⊎_elim
      (λ alike. one.fewer other mode (two.free other mode (alike.want ∙ want) none))
      (λ g. one.free other mode want g.1.over)
      (one.each other block)

  pub passes_then : Passes block a c
  passes_then = record {
    each = λ other at. each_then other at (one.each other at) (two.each other at);
    floors = λ at. two.floors at ∙ one.floors at;
    fewer = λ other mode lets. one.fewer other mode (two.fewer other mode lets);
    free = free_then;
  }

-- a want that is left was left before
pub left_before : (block : ℕ) (a b : List Row) (session : ℕ) → Passes block a b → IsLeft b session block → IsLeft a session block
left_before block a b session passes left = ⊎_elim
    (λ alike. record { mode = left.mode; wanted = sym alike.want ∙ left.wanted; not_held = sym alike.hold ∙ left.not_held; free = passes.fewer session left.mode left.free })
    (λ g. absurd (let h = sym g.1.over ∙ left.wanted in cc))
    (passes.each session block)

-- who wants something has a row
pub has_place : (rows : List Row) (session block : ℕ) (mode : Mode) → want_in rows session block ≡ Some mode → (place : ℕ) × (place < length (sessions_at block rows)) × (slice_index (sessions_at block rows) place ≡ session)
has_place [] session block mode is = absurd cc
has_place (row ∷ rows) session block mode is = by_block (row.block == block) refl (λ more. has_place rows session block mode more)
  where
    Has : List Row → Type 0
    Has all = (place : ℕ) × (place < length (map (λ (r : Row). r.session) all)) × (slice_index (map (λ (r : Row). r.session) all) place ≡ session)

    more : Has (rows_at block rows) → Has (row ∷ rows_at block rows)
    more found = (suc found.0, (let less = found.1 in omega (arith, less)), found.2)

    by_row : (t : Bool) → is_row session block row ≡ t → (want_in rows session block ≡ Some mode → Has (rows_at block rows)) → Has (row ∷ rows_at block rows)
    by_row true t later = (0, omega arith, (row_is session block row t).0)
    by_row false t later = more (later (let h = rw t at is in h))

    by_block : (b : Bool) → (row.block == block) ≡ b → (want_in rows session block ≡ Some mode → Has (rows_at block rows)) → Has (rows_at block (row ∷ rows))
    by_block true its later = subst Has (sym (ap (λ t. if t then row ∷ rows_at block rows else rows_at block rows) its)) (by_row (is_row session block row) refl later)
    by_block false other later =
        let ne : row.block ≢ block = λ e. grind (arith, nat_tests, e, other) in
        let no = not_row session block row (inr ne) in
        subst Has (sym (ap (λ t. if t then row ∷ rows_at block rows else rows_at block rows) other)) (later (let h = rw no at is in h))

-- the session of a row that is there
pub session_there : (rows : List Row) (place : ℕ) (none : Row) → none.session ≡ 0 → (slice_index_or rows place none).session ≡ slice_index (map (λ (row : Row). row.session) rows) place
session_there [] place none is = is
session_there (row ∷ rows) zero none is = refl
session_there (row ∷ rows) (suc place) none is = session_there rows place none is

pub how_many : (rows : List Row) → length (map (λ (row : Row). row.session) rows) ≡ length rows
how_many [] = refl
how_many (row ∷ rows) = ap suc (how_many rows)

pub none_yet : (block : ℕ) (rows new : List Row) → NoneLeft block rows new 0
none_yet block rows new = record { each = λ place less. absurd (omega (arith, less)) }

pub one_more : (block : ℕ) (rows mid new : List Row) (count session : ℕ) → NoneLeft block rows mid count → session ≡ slice_index (sessions_at block rows) count → Passes block mid new → (IsLeft new session block → ⊥)
    → NoneLeft block rows new (count + 1)
one_more block rows mid new count session none is passes here = record { each = λ place below left. by_place place below left (decide place count) }
  where
    by_place : (place : ℕ) → place < count + 1 → IsLeft new (slice_index (sessions_at block rows) place) block → (place ≡ count) ⊎ (place ≢ count) → ⊥
    by_place place below left (inl same) =
        let its : slice_index (sessions_at block rows) place ≡ session = ap (slice_index (sessions_at block rows)) same ∙ sym is in
        here (subst (λ (n : ℕ). IsLeft new n block) its left)
    by_place place below left (inr apart) = none.each place (let ne = apart in omega (arith, below, ne)) (left_before block mid new (slice_index (sessions_at block rows) place) passes left)

pub all_places : (block : ℕ) (rows new : List Row) (count session : ℕ) → NoneLeft block rows new count → length (sessions_at block rows) ≤ count → Passes block rows new → IsLeft new session block → ⊥
all_places block rows new count session none long passes left =
    let before = left_before block rows new session passes left in
    let found = has_place rows session block before.mode before.wanted in
    none.each found.0 (let less = found.1 in omega (arith, less, long)) (subst (λ (n : ℕ). IsLeft new n block) (sym found.2) left)

-- ---- a want is put

module _ (rows : List Row) (session block index : ℕ) (mode : Mode) (row : Row) (free : Bool) (its : row ≡ lock_row rows session block) (is : index ≡ floor_in rows block) (may : free ≡ true → AllLet session block mode rows) (must : AllLet session block mode rows → free ≡ true) where
  abbrev pub want : Row
  want = asked rows session block index mode row free (not free) its is may

  pub answered : IsAnswered session block mode rows (with_row rows want)
  answered = record { granted = λ lets. at_once (must lets); waits = λ blocked. waiting free refl blocked }
    where
      at_once : free ≡ true → (hold_in (with_row rows want) session block ≡ Some (mode, floor_in rows block)) × (want_in (with_row rows want) session block ≡ None)
      at_once free_now = (
        hold_of_new rows session block row its want refl refl ∙ ap (λ t. if t then Some (mode, index) else None) free_now ∙ ap (λ (n : ℕ). Some (mode, n)) is,
        want_of_new rows session block row its want refl refl ∙ ap (λ t. if not t then Some mode else None) free_now,
      )

      waiting : (b : Bool) → free ≡ b → (AllLet session block mode rows → ⊥) → (hold_in (with_row rows want) session block ≡ None) × (want_in (with_row rows want) session block ≡ Some mode)
      waiting true free_now blocked = absurd (blocked (may free_now))
      waiting false taken blocked = (
        hold_of_new rows session block row its want refl refl ∙ ap (λ t. if t then Some (mode, index) else None) taken,
        want_of_new rows session block row its want refl refl ∙ ap (λ t. if not t then Some mode else None) taken,
      )

-- what others hold and want stays where a row is put
pub alike_beside : (rows : List Row) (session block : ℕ) (row : Row) → row ≡ lock_row rows session block → (new : Row) → new.session ≡ row.session → new.block ≡ row.block → (other at : ℕ) → (other ≢ session) ⊎ (at ≢ block) → IsAlike rows (with_row rows new) other at
alike_beside rows session block row its new same_session same_block other at apart =
    let unlike : is_row other at new ≡ false = not_row other at new (⊎_elim
    (λ one. inl (λ same. one (sym same ∙ same_session ∙ its_session rows session block row its)))
    (λ one. inr (λ same. one (sym same ∙ same_block ∙ its_block rows session block row its))) apart) in
    record { hold = held_beside rows new other at unlike; want = want_beside rows new other at unlike }

-- ---- a call and then what is granted

module _ (session block : ℕ) (rows mid new : List Row) (others : (other at : ℕ) → (other ≢ session) ⊎ (at ≢ block) → IsAlike rows mid other at) (passes : Passes block mid new) (none_left : (other : ℕ) → IsLeft new other block → ⊥) where
  alike_then : (other at : ℕ) → IsAlike rows mid other at → IsAlike mid new other at → IsAlike rows new other at
  alike_then other at first next = record { hold = next.hold ∙ first.hold; want = next.want ∙ first.want }

  pub grants : Grants session block rows new
  grants = record {
    others = λ other apart.
        let first = others other block (inl apart) in
        ⊎_elim (λ next. inl (alike_then other block first next))
        (λ g. inr (record { mode = g.1.mode; wanted = sym first.want ∙ g.1.wanted; not_held = sym first.hold ∙ g.1.not_held; held = g.1.held; over = g.1.over })) (passes.each other block);
    elsewhere = λ other at apart. ⊎_elim (λ next. alike_then other at (others other at (inr apart)) next) (λ g. absurd (apart g.0)) (passes.each other at);
    none_left = none_left;
  }

  -- what was granted at once stays, and what waits goes on waiting
  pub answered_then : (mode : Mode) → (AllLet session block mode mid → AllLet session block mode rows) → IsAnswered session block mode rows mid → IsAnswered session block mode rows new
  answered_then mode lets is = record {
    granted = λ free. let was = is.granted free in ⊎_elim (λ next. (next.hold ∙ was.0, next.want ∙ was.1)) (λ g. absurd (let h = sym g.1.not_held ∙ was.0 in cc)) (passes.each session block);
    waits = λ blocked. let was = is.waits blocked in ⊎_elim (λ next. (next.hold ∙ was.0, next.want ∙ was.1)) (λ g. absurd (blocked (lets (passes.free session mode was.1 g.1.over)))) (passes.each session block);
  }

  pub gone_then : (want_in mid session block ≡ None) × (hold_in mid session block ≡ None) → IsGone new session block
  gone_then was = ⊎_elim (λ next. record { hold = next.hold ∙ was.1; want = next.want ∙ was.0 }) (λ g. absurd (let h = sym g.1.wanted ∙ was.0 in cc)) (passes.each session block)

  -- a want is out or granted afterwards, where it was before
  pub wants_then : (mode : Mode) → (want_in mid session block ≡ Some mode) ⊎ IsSomeAnd (hold_in mid session block) (λ held. held.0 ≡ mode) → (want_in new session block ≡ Some mode) ⊎ IsSomeAnd (hold_in new session block) (λ held. held.0 ≡ mode)
  wants_then mode is = ⊎_elim
      (λ next. ⊎_elim (λ waits. inl (next.want ∙ waits)) (λ held. inr (subst (λ (o : Option Hold). IsSomeAnd o (λ h. h.0 ≡ mode)) (sym next.hold) held)) is)
      (λ g. ⊎_elim
      (λ waits. let same : g.1.mode ≡ mode = (let h = sym g.1.wanted ∙ waits in cc) in inr (subst (λ (o : Option Hold). IsSomeAnd o (λ h. h.0 ≡ mode)) (sym g.1.held) same))
      (λ held. absurd (let h = subst (λ (o : Option Hold). IsSomeAnd o (λ h. h.0 ≡ mode)) g.1.not_held held in h)) is)
      (passes.each session block)

-- ---- what a node holds, by its session

-- a block is held as before where each session holds it as before
pub same_of : (own : Option ℕ) (holding before : Holds) (at : ℕ) → ((session : ℕ) → holding session at ≡ before session at) → hold_of own holding at ≡ hold_of own before at
same_of None holding before at same = refl
same_of (Some session) holding before at same = same session

pub held_by_own : (nodes node block : ℕ) (rows : List Row) → IsSome (own_in nodes node) → hold_of (own_in nodes node) (hold_in rows) block ≡ hold_in rows (node + 1) block
held_by_own nodes node block rows some = by_test (nat_lt node nodes) refl
  where
    by_test : (b : Bool) → nat_lt node nodes ≡ b → hold_of (own_in nodes node) (hold_in rows) block ≡ hold_in rows (node + 1) block
    by_test true is = ap (λ t. hold_of (if t then Some (node + 1) else None) (hold_in rows) block) is
    by_test false past =
        let none : own_in nodes node ≡ None = ap (λ t. if t then Some (node + 1) else None) past in
        let wrong = subst (λ (o : Option ℕ). IsSome o) none some in
        absurd cc

-- an end that stays doesn't fall
pub end_stays : (end : Option ℕ) → IfSome end (λ before. IfSome end (λ now. before ≤ now))
end_stays None = tt
end_stays (Some end) = omega arith

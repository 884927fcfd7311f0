-- What is granted by the row on grants may be granted.
use Rattle.std.proofs.Common.{◌≡◌, ⊎_elim, ℕ, ◌<◌, ◌≤◌, Bool, true, false, List, [], ◌∷◌, Option, Some, None, refl, sym, ◌∙◌, ap, subst, arith}
use Rattle.std.specs.Prelude.{IsSome, IsSomeAnd, find, ltb, nat_le, ◌==◌, ◌&&◌, ◌||◌, not, if◌then◌else◌}
use Rattle.std.specs.List.{list_any}
use Rattle.std.proofs.lemmas.Bool.Decides.{eqb_tells, leb_tells, nat_tests}
use Rattle.bx_base.specs.declared.names.Mode.{Mode}
use Rattle.bx_base.specs.declared.names.Mode.TheVariants.{Shared, Exclusive}
use Rattle.bx_global.specs.declared.state.GlobalState.{GlobalState}
use Rattle.bx_rows.specs.declared.session.SessionRow.{SessionRow}
use Rattle.bx_rows.specs.Words.{row_in}
use Rattle.bx_facts.specs.Chains.{Chain, HasRow, LivesIn, oldest}
use Rattle.bx_lock_words.specs.declared.words.Grant.{Grant}
use Rattle.bx_lock_words.specs.declared.words.Want.{Want}
use Rattle.bx_lock_words.specs.declared.words.Word.{Word}
use Rattle.bx_locking.specs.Tables.{AreLocks, Entry, Side, Term}
use Rattle.bx_locking.proofs.Basics.{lives_has, not_both}
use Rattle.bx_locking.proofs.Masters.{MayGrant}
use Rattle.bx_lock_tables.specs.Accounts.{row_for, rows_at}
use Rattle.bx_lock_tables.specs.Rows.{clashes, clashing, dead_has, granted_row, has_clash, has_earlier, is_again, is_alive, is_old, kept_mode, listed_for, lives, mode_for, row_of, stands_up, verdict_of}
use Rattle.bx_lock_tables.specs.declared.rows.Row.{Row}
use Rattle.bx_lock_tables.specs.declared.verdict.Verdict.TheVariants.{Refuses, Waits, Grants}
use Rattle.bx_master.specs.Masters.{Mastering}
use Rattle.bx_lock_steps.specs.Machines.{AreAccounts, IsTied, IsUpTo, entry_from, number_from}
use Rattle.bx_lock_steps.proofs.Accounts.{row_is}

-- ---- tests of lists

pub find_is : {A : Type 0} (test : A → Bool) (items : List A) (item : A) → find test items ≡ Some item → test item ≡ true
find_is {A} test [] item is = absurd cc
find_is {A} test (one ∷ rest) item is = by_test (find_is test rest item) (test one) refl is
  where
    by_test : (find test rest ≡ Some item → test item ≡ true) → (b : Bool) → test one ≡ b → (if b then Some one else find test rest) ≡ Some item → test item ≡ true
    by_test later true so found = let same : one ≡ item = cc in sym (ap test same) ∙ so
    by_test later false not_so found = later found

none_of : {A : Type 0} (test other : A → Bool) (items : List A) (item : A) → find test items ≡ Some item → list_any other items ≡ false → other item ≡ false
none_of {A} test other [] item is any = absurd cc
none_of {A} test other (one ∷ rest) item is any = by_test (none_of test other rest item) (test one) refl (other one) refl is any
  where
    by_test : (find test rest ≡ Some item → list_any other rest ≡ false → other item ≡ false) → (b : Bool) → test one ≡ b → (d : Bool) → other one ≡ d → (if b then Some one else find test rest) ≡ Some item → (d || list_any other rest) ≡ false → other item ≡ false
    by_test later true so true so_too found any = absurd cc
    by_test later true so false no_other found any = let same : one ≡ item = cc in sym (ap other same) ∙ no_other
    by_test later false not_so true so_too found any = absurd cc
    by_test later false not_so false no_other found any = later found any

-- ---- what a verdict tells

pub record IsGranted (known : GlobalState) (last_dead : Option ℕ) (index reading : ℕ) (rows : List Row) (w : Want) (row : Row) : Type 0 where
  pub alive : lives known w.session ≡ true
  pub newer : (is_old (row_of rows w.session) w && not (is_again (row_of rows w.session) w)) ≡ false
  pub free : stands_up known last_dead rows w ≡ false
  pub in_term : ltb known.term_end reading ≡ false
  pub is : granted_row (row_of rows w.session) index w ≡ row

tells : (a b c d : Bool) (x row : Row) → (if not a then Refuses else if b then Refuses else if c then Waits else if d then Refuses else Grants x) ≡ Grants row → (a ≡ true) × (b ≡ false) × (c ≡ false) × (d ≡ false) × (x ≡ row)
tells false b c d x row is = absurd cc
tells true true c d x row is = absurd cc
tells true false true d x row is = absurd cc
tells true false false true x row is = absurd cc
tells true false false false x row is = (refl, refl, refl, refl, cc)

pub granted : (known : GlobalState) (last_dead : Option ℕ) (index reading : ℕ) (rows : List Row) (w : Want) (row : Row) → verdict_of known last_dead index reading rows w ≡ Grants row → IsGranted known last_dead index reading rows w row
granted known last_dead index reading rows w row is =
    let t = tells (lives known w.session) (is_old (row_of rows w.session) w && not (is_again (row_of rows w.session) w)) (stands_up known last_dead rows w) (ltb known.term_end reading) (granted_row (row_of rows w.session) index w) row is in
    record { alive = t.0; newer = t.1; free = t.2; in_term = t.3; is = t.4 }

-- ---- what a grant is

both_false : (a b : Bool) → (a || b) ≡ false → (a ≡ false) × (b ≡ false)
both_false true b is = absurd cc
both_false false b is = (refl, is)

pub alive_lives : (o : Option SessionRow) → is_alive o ≡ true → IsSomeAnd o (λ row. row.dead ≡ 0)
alive_lives None is = absurd cc
alive_lives (Some row) is = grind (arith, nat_tests, is)

not_old : (old again : Bool) → again ≡ false → (old && not again) ≡ false → old ≡ false
not_old true true no_again is = absurd cc
not_old true false no_again is = absurd cc
not_old false again no_again is = refl

listed_less : (o : Option Row) (w : Want) → is_old o w ≡ false → number_from o < w.number
listed_less None w is = grind (arith, nat_tests, is)
listed_less (Some row) w is = by_test (ltb row.number w.number) refl is
  where
    by_test : (b : Bool) → ltb row.number w.number ≡ b → not b ≡ false → row.number < w.number
    by_test true so no_more = grind (arith, nat_tests, so)
    by_test false not_so no_more = absurd cc

pub listed_new : (o : Option Row) (index : ℕ) (w : Want) → is_again o w ≡ false → granted_row o index w ≡ listed_for o index w
listed_new None index w no_again = refl
listed_new (Some row) index w no_again = ap (λ (b : Bool). if b then row else listed_for (Some row) index w) no_again

-- the number of what stands is granted again as it stands
pub record IsAgain (o : Option Row) (w : Want) (row : Row) : Type 0 where
  pub is : o ≡ Some row
  pub stands : row.stands ≡ true
  pub number : row.number ≡ w.number

pub again_row : (o : Option Row) (index : ℕ) (w : Want) (row : Row) → is_again o w ≡ true → granted_row o index w ≡ row → IsAgain o w row
again_row None index w row again is = absurd cc
again_row (Some old) index w row again is = by_both old.stands (old.number == w.number) refl refl again
  where
    same : old ≡ row
    same = sym (ap (λ (b : Bool). if b then old else listed_for (Some old) index w) again) ∙ is

    by_both : (a b : Bool) → old.stands ≡ a → (old.number == w.number) ≡ b → (a && b) ≡ true → IsAgain (Some old) w row
    by_both true true one two both = record {
      is = ap (λ (x : Row). Some x) same;
      stands = sym (ap (λ (x : Row). x.stands) same) ∙ one;
      number = sym (ap (λ (x : Row). x.number) same) ∙ (let e : old.number ≡ w.number = grind (arith, nat_tests, two) in e);
    }
    by_both true false one two both = absurd cc
    by_both false b one two both = absurd cc

shared_both : (mode other : Mode) → clashing mode other ≡ false → (mode ≡ Shared) × (other ≡ Shared)
shared_both Exclusive other is = absurd cc
shared_both Shared Exclusive is = absurd cc
shared_both Shared Shared is = (refl, refl)

pub record IsEntryOf (o : Option Row) (f : Entry) : Type 0 where
  pub row : Row
  pub is : o ≡ Some row
  pub stands : row.stands ≡ true
  pub mode : f.mode ≡ row.mode

entry_row : (o : Option Row) (f : Entry) → entry_from o ≡ Some f → IsEntryOf o f
entry_row None f is = absurd cc
entry_row (Some row) f is = by_test row.stands refl is
  where
    by_test : (b : Bool) → row.stands ≡ b → (if b then Some (record { mode = row.mode; number = row.number; index = row.index }) else None) ≡ Some f → IsEntryOf (Some row) f
    by_test true so is = let same : record { mode = row.mode; number = row.number; index = row.index } ≡ f = cc in record { row = row; is = refl; stands = so; mode = sym (ap (λ (x : Entry). x.mode) same) }
    by_test false not_so is = absurd cc

no_clash : (stands same clash : Bool) → ((stands && not same) && clash) ≡ false → stands ≡ true → same ≡ false → clash ≡ false
no_clash true true clash is one two = absurd cc
no_clash true false clash is one two = is
no_clash false same clash is one two = absurd cc

kept_exclusive : (o : Option Row) (row : Row) (mode : Mode) → o ≡ Some row → row.stands ≡ true → row.mode ≡ Exclusive → mode_for o mode ≡ Exclusive
kept_exclusive o row mode is stands exclusive =
    ap (λ (x : Option Row). mode_for x mode) is ∙ ap (λ (b : Bool). if b then kept_mode row.mode mode else mode) stands ∙ ap (λ (m : Mode). kept_mode m mode) exclusive

pub data ModeFor (o : Option Row) (mode : Mode) : Type 0 where
  as_wanted : mode_for o mode ≡ mode → ModeFor o mode
  kept : (row : Row) → o ≡ Some row → row.stands ≡ true → row.mode ≡ Exclusive → ModeFor o mode

mode_is : (o : Option Row) (mode : Mode) → ModeFor o mode
mode_is None mode = as_wanted refl
mode_is (Some row) mode = by_test row.stands refl row.mode refl
  where
    by_test : (b : Bool) → row.stands ≡ b → (m : Mode) → row.mode ≡ m → ModeFor (Some row) mode
    by_test true so Exclusive is = kept row refl so is
    by_test true so Shared is = as_wanted (ap (λ (b : Bool). if b then kept_mode row.mode mode else mode) so ∙ ap (λ (m : Mode). kept_mode m mode) is)
    by_test false not_so m is = as_wanted (ap (λ (b : Bool). if b then kept_mode row.mode mode else mode) not_so)

-- the rows of the block that a want asks for
abbrev pub rows_of : Mastering → Want → List Row
rows_of m w = rows_at m.accounts w.block

abbrev pub own_row : Mastering → Want → Option Row
own_row m w = row_of (rows_of m w) w.session

abbrev pub new_grant : Mastering → Want → Grant
new_grant m w = record { session = w.session; block = w.block; mode = mode_for (own_row m w) w.mode; number = w.number; index = m.index }

-- A want that is granted, under a number that isn't that of what stands, may be granted.
pub may_grant : (chain : Chain) (holding : ℕ → ℕ → Option (Mode × ℕ)) (floor : ℕ → ℕ) (said : List Word) (side : Side) (term : Term) (noted : ℕ → ℕ) (m : Mastering) (known : GlobalState) (reading : ℕ) (w : Want) (row : Row) → AreLocks chain holding floor said side term → IsTied chain term noted m known
    → AreAccounts side.drawn 0 m.accounts → oldest chain ≤ w.session → verdict_of known m.last_dead m.index reading (rows_of m w) w ≡ Grants row → is_again (own_row m w) w ≡ false
    → (row ≡ listed_for (own_row m w) m.index w) × MayGrant chain term.view term.table term.listed (new_grant m w)
may_grant chain holding floor said side term noted m known reading w row locks tied are of_term verdict new = (
  sym is.is ∙ listed_new own m.index w new,
  record {
    lives = subst (λ (s : GlobalState). LivesIn s w.session) (sym tied.view) alive;
    term = of_term;
    newer = let l = tied.listed w.session w.block (lives_has known w.session alive) ∙ ap number_from (sym (found w.session)) in
        let n = listed_less own w (not_old (is_old own w) (is_again own w) new is.newer) in omega (arith, l, n);
    free = λ t f differ at.
        let e = entry_row (row_of rows t) f (ap entry_from (found t) ∙ sym (tied.table t w.block) ∙ at) in
        let both = shared_both w.mode e.row.mode (clear t e.row differ e.is e.stands) in
        (own_mode t f differ at both.0, e.mode ∙ both.1);
    own = λ f at exclusive. let e = entry_row own f (ap entry_from (found w.session) ∙ sym (tied.table w.session w.block) ∙ at) in kept_exclusive own e.row w.mode e.is e.stands (sym e.mode ∙ exclusive);
    no_earlier = λ t has. ⊎_elim
        (λ later. later.1)
        (λ before. absurd (none_earlier t (subst (λ (s : GlobalState). HasRow s t) tied.view has) before.1))
        (leb_tells (oldest chain) t);
  },
)
  where
    rows : List Row
    rows = rows_of m w

    own : Option Row
    own = row_of rows w.session

    found : (t : ℕ) → row_of rows t ≡ row_for m.accounts t w.block
    found t = row_is side.drawn 0 m.accounts t w.block are

    is : IsGranted known m.last_dead m.index reading rows w row
    is = granted known m.last_dead m.index reading rows w row verdict

    alive : LivesIn known w.session
    alive = alive_lives (row_in known.sessions w.session) is.alive

    tests : (((has_clash rows w.session w.mode || dead_has known rows)) ≡ false) × (has_earlier known m.last_dead ≡ false)
    tests = both_false (has_clash rows w.session w.mode || dead_has known rows) (has_earlier known m.last_dead) is.free

    clear : (t : ℕ) (r : Row) → (t ≡ w.session → ⊥) → row_of rows t ≡ Some r → r.stands ≡ true → clashing w.mode r.mode ≡ false
    clear t r differ there stands =
        let test = none_of (λ (x : Row). x.session == t) (clashes w.session w.mode) rows r there (both_false (has_clash rows w.session w.mode) (dead_has known rows) tests.0).0 in
        let same : (r.session == t) ≡ true = find_is (λ (x : Row). x.session == t) rows r there in
        no_clash r.stands (r.session == w.session) (clashing w.mode r.mode) test stands (other_session r.session t same differ)
      where
        other_session : (s t : ℕ) → (s == t) ≡ true → (t ≡ w.session → ⊥) → (s == w.session) ≡ false
        other_session s t same differ = let e : s ≡ t = grind (arith, nat_tests, same) in ⊎_elim (λ is. absurd (differ (sym e ∙ is.1))) (λ not_is. not_is.0) (eqb_tells s w.session)

    own_mode : (t : ℕ) (f : Entry) → (t ≡ w.session → ⊥) → term.table t w.block ≡ Some f → w.mode ≡ Shared → mode_for own w.mode ≡ Shared
    own_mode t f differ at shared = by_kind (mode_is own w.mode)
      where
        by_kind : ModeFor own w.mode → mode_for own w.mode ≡ Shared
        by_kind (as_wanted e) = e ∙ shared
        by_kind (kept q there stands exclusive) = absurd (not_both q.mode exclusive
            ((locks.listed.apart w.session t w.block (record { mode = q.mode; number = q.number; index = q.index }) f (λ e. differ (sym e))
            (tied.table w.session w.block ∙ ap entry_from (sym (found w.session) ∙ there) ∙ ap (λ (b : Bool). if b then Some (record { mode = q.mode; number = q.number; index = q.index }) else None) stands) at).0))

    none_earlier : (t : ℕ) → HasRow known t → t < oldest chain → ⊥
    none_earlier t has before = by_row (row_in known.sessions t) refl has
      where
        by_last : (o : Option ℕ) (r : SessionRow) → find (λ (x : SessionRow). x.number == t) known.sessions ≡ Some r → IsUpTo o t → has_earlier known o ≡ false → ⊥
        by_last None r there up_to none = up_to
        by_last (Some last_one) r there up_to none =
            let test : nat_le r.number last_one ≡ false = none_of (λ (x : SessionRow). x.number == t) (λ (x : SessionRow). nat_le x.number last_one) known.sessions r there none in
            let same : (r.number == t) ≡ true = find_is (λ (x : SessionRow). x.number == t) known.sessions r there in
            let n : r.number ≡ t = grind (arith, nat_tests, same) in
            let k : last_one < r.number = grind (arith, nat_tests, test) in
            omega (arith, n, up_to, k)

        by_row : (o : Option SessionRow) → row_in known.sessions t ≡ o → IsSome o → ⊥
        by_row None none some = absurd cc
        by_row (Some r) there some = by_last m.last_dead r there (tied.earlier t has before) tests.1

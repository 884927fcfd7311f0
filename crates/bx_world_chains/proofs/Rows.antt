-- What one change leaves of sessions.
use Rattle.std.proofs.Common.{◌≡◌, ◌≢◌, ◌⊎◌, ⊎_elim, inl, inr, ℕ, ◌+◌, ◌<◌, Bool, true, false, ◌||◌, eqb, List, [], ◌∷◌, ◌++◌, map, Option, Some, None, refl, sym, ◌∙◌, ap, subst, arith, ne_eqb}
use Rattle.std.specs.Prelude.{◌==◌, IsSome, IsSomeAnd}
use Rattle.std.specs.List.{AllByRecursion}
use Rattle.std.proofs.lemmas.Bool.Decides.{nat_tests}
use Rattle.bx_locking.specs.bx_facts.specs.Chains.{HasRow, LivesIn}
use Rattle.bx_global.specs.Allowed.{IsAllowed, AreRising, HaveOwnSlots, IsSession}
use Rattle.bx_global.specs.declared.change.Change.{Change}
use Rattle.bx_global.specs.declared.change.Change.TheVariants.{Renew, Take, Open, Expire, Claim, Close, Shift}
use Rattle.bx_global.specs.declared.state.GlobalState.{GlobalState}
use Rattle.bx_global.specs.Table.{Closes, IsLegal, effect, opened}
use Rattle.bx_global.proofs.Rising.{closed_goes, keeps_expired, row_stays, sessions_stay, stays_gone}
use Rattle.bx_rows.specs.declared.session.SessionRow.{SessionRow}
use Rattle.bx_rows.specs.Rows.{GoesOn, claimed, dead, expired, without}
use Rattle.bx_rows.specs.Words.{is_taken, row_in}
use Rattle.bx_world_chains.specs.Entitled.{IsEntitled, SlotGoes}

-- ---- rows by their numbers

pub number_is : (rows : List SessionRow) (n : ℕ) (row : SessionRow) → row_in rows n ≡ Some row → row.number ≡ n
number_is [] n row is = absurd cc
number_is (first ∷ rows) n row is = by (eqb first.number n) refl (λ found. number_is rows n row found)
  where
    by : (b : Bool) → eqb first.number n ≡ b → (row_in rows n ≡ Some row → row.number ≡ n) → row.number ≡ n
    by true same rest = let h = rw same at is in let e : first ≡ row = cc in ap (λ (r : SessionRow). r.number) (sym e) ∙ grind (arith, nat_tests, same)
    by false other rest = rest (rw other at is)

pub below_next : (rows : List SessionRow) (next n : ℕ) (row : SessionRow) → AreRising rows next → row_in rows n ≡ Some row → n < next
below_next [] next n row rising is = absurd cc
below_next (first ∷ rows) next n row rising is = by (eqb first.number n) refl (λ found. below_next rows next n row rising.2 found)
  where
    by : (b : Bool) → eqb first.number n ≡ b → (row_in rows n ≡ Some row → n < next) → n < next
    by true same rest = let e : first.number ≡ n = grind (arith, nat_tests, same) in let less = rising.0 in omega (arith, e, less)
    by false other rest = rest (rw other at is)

pub all_row : (P : SessionRow → Type 0) (rows : List SessionRow) (n : ℕ) (row : SessionRow) → AllByRecursion P rows → row_in rows n ≡ Some row → P row
all_row P [] n row all is = absurd cc
all_row P (first ∷ rows) n row all is = by (eqb first.number n) refl (λ found. all_row P rows n row all.1 found)
  where
    by : (b : Bool) → eqb first.number n ≡ b → (row_in rows n ≡ Some row → P row) → P row
    by true same rest = let h = rw same at is in let e : first ≡ row = cc in subst P e all.0
    by false other rest = rest (rw other at is)

-- two rows in one slot are one
pub one_slot : (rows : List SessionRow) (n m : ℕ) (one other : SessionRow) → HaveOwnSlots rows → row_in rows n ≡ Some one → row_in rows m ≡ Some other → one.slot ≡ other.slot → n ≡ m
one_slot [] n m one other own is is_too same = absurd cc
one_slot (first ∷ rows) n m one other own is is_too same = by (eqb first.number n) (eqb first.number m) refl refl (λ a b. one_slot rows n m one other own.1 a b same)
  where
    by : (a b : Bool) → eqb first.number n ≡ a → eqb first.number m ≡ b → (row_in rows n ≡ Some one → row_in rows m ≡ Some other → n ≡ m) → n ≡ m
    by true true x y rest = let e : first.number ≡ n = grind (arith, nat_tests, x) in let f : first.number ≡ m = grind (arith, nat_tests, y) in sym e ∙ f
    by true false x y rest =
        let h = rw x at is in let e : first ≡ one = cc in
        let differ = all_row (λ row. row.slot ≢ first.slot) rows m other own.0 (rw y at is_too) in
        absurd (differ (sym same ∙ ap (λ (r : SessionRow). r.slot) (sym e)))
    by false true x y rest =
        let h = rw y at is_too in let e : first ≡ other = cc in
        let differ = all_row (λ row. row.slot ≢ first.slot) rows n one own.0 (rw x at is) in
        absurd (differ (same ∙ ap (λ (r : SessionRow). r.slot) (sym e)))
    by false false x y rest = rest (rw x at is) (rw y at is_too)

-- ---- before a change

closes_or : (change : Change) (n : ℕ) → Closes change n ⊎ (Closes change n → ⊥)
closes_or (Renew by boot reading) n = inr (λ x. x)
closes_or (Take by boot reading) n = inr (λ x. x)
closes_or (Open node boot reading) n = inr (λ x. x)
closes_or (Expire session term reading) n = inr (λ x. x)
closes_or (Claim gone by) n = inr (λ x. x)
closes_or (Close gone by) n = either n gone
  where
    either : (a b : ℕ) → (a ≡ b) ⊎ (a ≢ b)
    either a b = grind arith
closes_or (Shift device epoch mode second boot) n = inr (λ x. x)

-- a session that has a row then and was given out has one before, which goes on
pub record Was (s : GlobalState) (n : ℕ) (new : SessionRow) : Type 0 where
  pub old : SessionRow
  pub is : row_in s.sessions n ≡ Some old
  pub goes : GoesOn old new

pub row_before : (s : GlobalState) (change : Change) (n : ℕ) (new : SessionRow) → row_in (effect s change).sessions n ≡ Some new → n < s.next_session → Was s n new
row_before s change n new is less = by (row_in s.sessions n) refl
  where
    goes_in : (old : SessionRow) (found : Option SessionRow) → found ≡ Some new → IsSomeAnd found (GoesOn old) → GoesOn old new
    goes_in old None none goes = absurd cc
    goes_in old (Some one) same goes = let e : one ≡ new = cc in subst (GoesOn old) e goes

    by : (found : Option SessionRow) → row_in s.sessions n ≡ found → Was s n new
    by None none = absurd (let e = stays_gone s change n less none in cc)
    by (Some old) had = ⊎_elim
        (λ closes. absurd (let e = closed_goes s change n closes in cc))
        (λ stays. record { old = old; is = had; goes = goes_in old (row_in (effect s change).sessions n) is (row_stays s change n old had stays) })
        (closes_or change n)

some_row : (found : Option SessionRow) → IsSome found → (row : SessionRow) × (found ≡ Some row)
some_row None some = absurd cc
some_row (Some row) some = (row, refl)

live_row : (found : Option SessionRow) → IsSomeAnd found (λ row. row.dead ≡ 0) → (row : SessionRow) × (found ≡ Some row) × (row.dead ≡ 0)
live_row None lives = absurd lives
live_row (Some row) lives = (row, refl, lives)

pub row_of : (s : GlobalState) (n : ℕ) → HasRow s n → (row : SessionRow) × (row_in s.sessions n ≡ Some row)
row_of s n has = some_row (row_in s.sessions n) has

pub lives_row : (s : GlobalState) (n : ℕ) → LivesIn s n → (row : SessionRow) × (row_in s.sessions n ≡ Some row) × (row.dead ≡ 0)
lives_row s n lives = live_row (row_in s.sessions n) lives

pub has_of : (s : GlobalState) (n : ℕ) (row : SessionRow) → row_in s.sessions n ≡ Some row → HasRow s n
has_of s n row is = subst (λ (o : Option SessionRow). IsSome o) (sym is) refl

pub lives_of : (s : GlobalState) (n : ℕ) (row : SessionRow) → row_in s.sessions n ≡ Some row → row.dead ≡ 0 → LivesIn s n
lives_of s n row is zero_is = subst (λ (o : Option SessionRow). IsSomeAnd o (λ row. row.dead ≡ 0)) (sym is) zero_is

pub lives_has : (s : GlobalState) (n : ℕ) → LivesIn s n → HasRow s n
lives_has s n lives = let row = lives_row s n lives in has_of s n row.0 row.1

pub has_before : (s : GlobalState) (change : Change) (n : ℕ) → HasRow (effect s change) n → n < s.next_session → HasRow s n
has_before s change n has less = let new = row_of (effect s change) n has in let was = row_before s change n new.0 new.1 less in has_of s n was.old was.is

zero_or_one : (n : ℕ) → n < 2 → (n ≡ 0) ⊎ (n ≡ 1)
zero_or_one n less = grind arith

pub lives_before : (s : GlobalState) (change : Change) (n : ℕ) → IsAllowed s → LivesIn (effect s change) n → n < s.next_session → LivesIn s n
lives_before s change n allowed lives less =
    let new = lives_row (effect s change) n lives in
    let was = row_before s change n new.0 new.1 less in
    let is = all_row (IsSession s.term_end) s.sessions n was.old allowed.each_session was.is in
    ⊎_elim (λ z. lives_of s n was.old was.is z) (λ one. absurd (let e = was.goes.dead one in let f = new.2 in omega (arith, e, f))) (zero_or_one was.old.dead is.dead)

-- ---- rights go on

claimed_by : (gone by n : ℕ) (row : SessionRow) → n ≢ gone → row.number ≡ n → claimed gone by row ≡ row
claimed_by gone by n row other is = rw (ne_eqb row.number gone (λ e. other (sym is ∙ e))) refl

-- the row of a dead session that a live one has claimed is as it was, unless it is closed
by_stays : (s : GlobalState) (change : Change) (owner session : ℕ) (old new : SessionRow) → IsLegal s change → LivesIn s session → row_in s.sessions owner ≡ Some old → old.by ≡ session
    → row_in (effect s change).sessions owner ≡ Some new → old.dead ≡ 1 → new.by ≡ session
by_stays s (Renew by boot reading) owner session old new legal lives had is now dead_is = let e : Some old ≡ Some new = sym had ∙ now in let f : old ≡ new = cc in ap (λ (r : SessionRow). r.by) (sym f) ∙ is
by_stays s (Shift device epoch mode second boot) owner session old new legal lives had is now dead_is = let e : Some old ≡ Some new = sym had ∙ now in let f : old ≡ new = cc in ap (λ (r : SessionRow). r.by) (sym f) ∙ is
by_stays s (Take by boot reading) owner session old new legal lives had is now dead_is = same_by s.sessions owner old new had now is
  where
    same_by : (rows : List SessionRow) (n : ℕ) (one other : SessionRow) → row_in rows n ≡ Some one → row_in (map dead rows) n ≡ Some other → one.by ≡ session → other.by ≡ session
    same_by [] n one other a b c = absurd cc
    same_by (row ∷ rows) n one other a b c = by_test (eqb row.number n) refl (λ x y. same_by rows n one other x y c)
      where
        by_test : (t : Bool) → eqb row.number n ≡ t → (row_in rows n ≡ Some one → row_in (map dead rows) n ≡ Some other → other.by ≡ session) → other.by ≡ session
        by_test true e rest = let h = rw e at a in let k = rw e at b in let f : row ≡ one = cc in let g : dead row ≡ other = cc in ap (λ (r : SessionRow). r.by) (sym g) ∙ ap (λ (r : SessionRow). r.by) f ∙ c
        by_test false e rest = rest (rw e at a) (rw e at b)
by_stays s (Expire gone term reading) owner session old new legal lives had is now dead_is = same_by s.sessions owner old new had now is
  where
    by_of : (row : SessionRow) → (expired gone row).by ≡ row.by
    by_of row = grind arith

    same_by : (rows : List SessionRow) (n : ℕ) (one other : SessionRow) → row_in rows n ≡ Some one → row_in (map (expired gone) rows) n ≡ Some other → one.by ≡ session → other.by ≡ session
    same_by [] n one other a b c = absurd cc
    same_by (row ∷ rows) n one other a b c = by_test (eqb row.number n) refl (λ x y. same_by rows n one other x y c)
      where
        by_test : (t : Bool) → eqb row.number n ≡ t → (row_in rows n ≡ Some one → row_in (map (expired gone) rows) n ≡ Some other → other.by ≡ session) → other.by ≡ session
        by_test true e rest =
            let ee : eqb (expired gone row).number n ≡ true = ap (λ (k : ℕ). eqb k n) (keeps_expired gone row) ∙ e in
            let h = rw e at a in let k = rw ee at b in let f : row ≡ one = cc in let g : expired gone row ≡ other = cc in ap (λ (r : SessionRow). r.by) (sym g) ∙ by_of row ∙ ap (λ (r : SessionRow). r.by) f ∙ c
        by_test false e rest =
            let ee : eqb (expired gone row).number n ≡ false = ap (λ (k : ℕ). eqb k n) (keeps_expired gone row) ∙ e in
            rest (rw e at a) (rw ee at b)
by_stays s (Open node boot reading) owner session old new legal lives had is now dead_is = by_number (either owner s.next_session)
  where
    either : (a b : ℕ) → (a ≡ b) ⊎ (a ≢ b)
    either a b = grind arith

    first_found : (rows : List SessionRow) (more : SessionRow) (n : ℕ) (one other : SessionRow) → row_in rows n ≡ Some one → row_in (rows ++ more ∷ []) n ≡ Some other → one ≡ other
    first_found [] more n one other a b = absurd cc
    first_found (row ∷ rows) more n one other a b = by_test (eqb row.number n) refl (λ x y. first_found rows more n one other x y)
      where
        by_test : (t : Bool) → eqb row.number n ≡ t → (row_in rows n ≡ Some one → row_in (rows ++ more ∷ []) n ≡ Some other → one ≡ other) → one ≡ other
        by_test true e rest = let h = rw e at a in let k = rw e at b in cc
        by_test false e rest = rest (rw e at a) (rw e at b)

    by_number : (owner ≡ s.next_session) ⊎ (owner ≢ s.next_session) → new.by ≡ session
    by_number any = ap (λ (r : SessionRow). r.by) (sym (first_found s.sessions (opened s node boot reading) owner old new had now)) ∙ is
by_stays s (Close gone by) owner session old new legal lives had is now dead_is = by_number (either owner gone)
  where
    either : (a b : ℕ) → (a ≡ b) ⊎ (a ≢ b)
    either a b = grind arith

    by_number : (owner ≡ gone) ⊎ (owner ≢ gone) → new.by ≡ session
    by_number (inl same) = absurd (let e = closed_goes s (Close gone by) owner same in cc)
    by_number (inr other) = let e = sessions_stay s (Close gone by) owner other in let f : Some old ≡ Some new = sym had ∙ sym e ∙ now in let h : old ≡ new = cc in ap (λ (r : SessionRow). r.by) (sym h) ∙ is
by_stays s (Claim gone by) owner session old new legal lives had is now dead_is = by_number (either owner gone)
  where
    either : (a b : ℕ) → (a ≡ b) ⊎ (a ≢ b)
    either a b = grind arith

    not_live : (found : Option SessionRow) → found ≡ Some old → IsSomeAnd found (λ row. (row.dead ≡ 1) × (LivesIn s row.by → ⊥)) → LivesIn s old.by → ⊥
    not_live None none free live = absurd free
    not_live (Some row) same free live = let e : row ≡ old = cc in free.1 (subst (λ (r : SessionRow). LivesIn s r.by) (sym e) live)

    by_number : (owner ≡ gone) ⊎ (owner ≢ gone) → new.by ≡ session
    by_number (inl same) = absurd (not_live (row_in s.sessions gone) (ap (row_in s.sessions) (sym same) ∙ had) legal.row.0 (subst (λ (n : ℕ). LivesIn s n) (sym is) lives))
    by_number (inr other) = let e = sessions_stay s (Claim gone by) owner other in let f : Some old ≡ Some new = sym had ∙ sym e ∙ now in let h : old ≡ new = cc in ap (λ (r : SessionRow). r.by) (sym h) ∙ is

some_is : {X : Type 0} (x y : X) (found : Option X) → found ≡ Some x → found ≡ Some y → x ≡ y
some_is x y found a b = cc

pub entitled_after : (s : GlobalState) (change : Change) (owner slot session : ℕ) → IsAllowed s → IsLegal s change → IsEntitled s owner slot session → LivesIn (effect s change) session → HasRow (effect s change) owner
    → IsEntitled (effect s change) owner slot session
entitled_after s change owner slot session allowed legal is lives has =
    let new = row_of (effect s change) owner has in
    let less = below_next s.sessions s.next_session owner is.row allowed.rising is.is in
    let was = row_before s change owner new.0 new.1 less in
    let same : was.old ≡ is.row = some_is was.old is.row (row_in s.sessions owner) was.is is.is in
    record {
      row = new.0;
      is = new.1;
      at = was.goes.slot ∙ ap (λ (r : SessionRow). r.slot) same ∙ is.at;
      lives = lives;
      whose = by new.0 new.1 was same is.whose;
    }
  where
    by : (new : SessionRow) → row_in (effect s change).sessions owner ≡ Some new → (was : Was s owner new) → was.old ≡ is.row → (owner ≡ session) ⊎ ((is.row.dead ≡ 1) × (is.row.by ≡ session)) → (owner ≡ session) ⊎ ((new.dead ≡ 1) × (new.by ≡ session))
    by new now was same (inl own) = inl own
    by new now was same (inr claims) = inr (was.goes.dead (ap (λ (r : SessionRow). r.dead) same ∙ claims.0), by_stays s change owner session is.row new legal is.lives is.is claims.1 now claims.0)

-- at most one session may write a slot
pub one_entitled : (s : GlobalState) (owner other slot session more : ℕ) → IsAllowed s → IsEntitled s owner slot session → IsEntitled s other slot more → (owner ≡ other) × (session ≡ more)
one_entitled s owner other slot session more allowed one two =
    let same : owner ≡ other = one_slot s.sessions owner other one.row two.row allowed.own_slots one.is two.is (one.at ∙ sym two.at) in
    let rows : one.row ≡ two.row = some_is one.row two.row (row_in s.sessions other) (ap (row_in s.sessions) (sym same) ∙ one.is) two.is in
    (same, by same rows one.whose two.whose)
  where
    alive : (n : ℕ) (row : SessionRow) → LivesIn s n → row_in s.sessions n ≡ Some row → row.dead ≡ 1 → ⊥
    alive n row lives is one_is = let live = lives_row s n lives in let e : live.0 ≡ row = some_is live.0 row (row_in s.sessions n) live.1 is in let z = live.2 in let f = ap (λ (r : SessionRow). r.dead) e in omega (arith, z, f, one_is)

    by : owner ≡ other → one.row ≡ two.row → (owner ≡ session) ⊎ ((one.row.dead ≡ 1) × (one.row.by ≡ session)) → (other ≡ more) ⊎ ((two.row.dead ≡ 1) × (two.row.by ≡ more)) → session ≡ more
    by same rows (inl a) (inl b) = sym a ∙ same ∙ b
    by same rows (inr a) (inr b) = sym a.1 ∙ ap (λ (r : SessionRow). r.by) rows ∙ b.1
    by same rows (inl a) (inr b) = absurd (alive session two.row one.lives (ap (row_in s.sessions) (sym a ∙ same) ∙ two.is) b.0)
    by same rows (inr a) (inl b) = absurd (alive more one.row two.lives (ap (row_in s.sessions) (sym b ∙ sym same) ∙ one.is) a.0)

-- ---- slots

is_taken_at : (rows : List SessionRow) (n : ℕ) (row : SessionRow) → row_in rows n ≡ Some row → is_taken rows row.slot ≡ true
is_taken_at [] n row is = absurd cc
is_taken_at (first ∷ rows) n row is = by (eqb first.number n) refl (λ found. is_taken_at rows n row found)
  where
    self : (k : ℕ) → (k == k) ≡ true
    self k = grind (arith, nat_tests)

    or_right : (a b : Bool) → b ≡ true → (a || b) ≡ true
    or_right true b is_b = refl
    or_right false b is_b = is_b

    by : (b : Bool) → eqb first.number n ≡ b → (row_in rows n ≡ Some row → is_taken rows row.slot ≡ true) → is_taken (first ∷ rows) row.slot ≡ true
    by true same rest = let h = rw same at is in let e : first ≡ row = cc in subst (λ (r : SessionRow). (first.slot == r.slot || is_taken rows r.slot) ≡ true) e (let t = self first.slot in rw t refl)
    by false other rest = or_right (first.slot == row.slot) (is_taken rows row.slot) (rest (rw other at is))

pub taken_of : (s : GlobalState) (n : ℕ) (row : SessionRow) → row_in s.sessions n ≡ Some row → is_taken s.sessions row.slot ≡ true
taken_of s n row is = is_taken_at s.sessions n row is

taken_map : (f : SessionRow → SessionRow) → ((row : SessionRow) → (f row).slot ≡ row.slot) → (rows : List SessionRow) (slot : ℕ) → is_taken (map f rows) slot ≡ is_taken rows slot
taken_map f same [] slot = refl
taken_map f same (row ∷ rows) slot = let e : ((f row).slot == slot) ≡ (row.slot == slot) = ap (λ (k : ℕ). k == slot) (same row) in let r = taken_map f same rows slot in rw (e, r) refl

taken_push : (rows : List SessionRow) (new : SessionRow) (slot : ℕ) → is_taken (rows ++ new ∷ []) slot ≡ (is_taken rows slot || (new.slot == slot))
taken_push [] new slot = none (new.slot == slot)
  where
    none : (b : Bool) → (b || false) ≡ (false || b)
    none true = refl
    none false = refl
taken_push (row ∷ rows) new slot = by (row.slot == slot) (taken_push rows new slot)
  where
    by : (b : Bool) → is_taken (rows ++ new ∷ []) slot ≡ (is_taken rows slot || (new.slot == slot)) → (b || is_taken (rows ++ new ∷ []) slot) ≡ ((b || is_taken rows slot) || (new.slot == slot))
    by true rest = refl
    by false rest = rest

slot_of_expired : (gone : ℕ) (row : SessionRow) → (expired gone row).slot ≡ row.slot
slot_of_expired gone row = grind arith

slot_of_claimed : (gone by : ℕ) (row : SessionRow) → (claimed gone by row).slot ≡ row.slot
slot_of_claimed gone by row = grind arith

-- where a slot is taken after a session is closed, it was before; where it isn't any more, the session had it
taken_without : (rows : List SessionRow) (gone slot : ℕ) → is_taken (without gone rows) slot ≡ true → is_taken rows slot ≡ true
taken_without [] gone slot taken = taken
taken_without (row ∷ rows) gone slot taken = by (eqb row.number gone) refl (λ left. taken_without rows gone slot left)
  where
    or_right : (a b : Bool) → b ≡ true → (a || b) ≡ true
    or_right true b is_b = refl
    or_right false b is_b = is_b

    either : (a b c : Bool) → (a || b) ≡ true → (b ≡ true → c ≡ true) → (a || c) ≡ true
    either true b c one leads = refl
    either false b c one leads = leads one

    by : (t : Bool) → eqb row.number gone ≡ t → (is_taken (without gone rows) slot ≡ true → is_taken rows slot ≡ true) → (row.slot == slot || is_taken rows slot) ≡ true
    by true same rest = or_right (row.slot == slot) (is_taken rows slot) (rest (rw same at taken))
    by false other rest = either (row.slot == slot) (is_taken (without gone rows) slot) (is_taken rows slot) (rw other at taken) rest

-- a slot that isn't taken any more was that of the session that is closed
kept_without : (rows : List SessionRow) (next gone slot : ℕ) → AreRising rows next → is_taken rows slot ≡ true → is_taken (without gone rows) slot ≡ false → (row : SessionRow) × (row_in rows gone ≡ Some row) × (row.slot ≡ slot)
kept_without [] next gone slot rising taken free = absurd cc
kept_without (row ∷ rows) next gone slot rising taken free = by (eqb row.number gone) refl (λ left then_free. kept_without rows next gone slot rising.2 left then_free)
  where
    or_false : (a b : Bool) → (a || b) ≡ false → (a ≡ false) × (b ≡ false)
    or_false true b is = absurd cc
    or_false false b is = (refl, is)

    twice : row.number ≡ gone → (found : SessionRow) × (row_in rows gone ≡ Some found) × (found.slot ≡ slot) → ⊥
    twice same rest =
        let more = all_row (λ later. row.number < later.number) rows gone rest.0 rising.1 rest.1 in
        let is = number_is rows gone rest.0 rest.1 in omega (arith, same, more, is)

    by_slot : eqb row.number gone ≡ true → (t : Bool) → (row.slot == slot) ≡ t → (is_taken rows slot ≡ true → is_taken (without gone rows) slot ≡ false → (found : SessionRow) × (row_in rows gone ≡ Some found) × (found.slot ≡ slot)) → (found : SessionRow) × (row_in (row ∷ rows) gone ≡ Some found) × (found.slot ≡ slot)
    by_slot same true e rest = (row, rw same refl, grind (arith, nat_tests, e))
    by_slot same false e rest = absurd (twice (grind (arith, nat_tests, same)) (rest (rw e at taken) (rw same at free)))

    by : (t : Bool) → eqb row.number gone ≡ t → (is_taken rows slot ≡ true → is_taken (without gone rows) slot ≡ false → (found : SessionRow) × (row_in rows gone ≡ Some found) × (found.slot ≡ slot)) → (found : SessionRow) × (row_in (row ∷ rows) gone ≡ Some found) × (found.slot ≡ slot)
    by true same rest = by_slot same (row.slot == slot) refl rest
    by false other rest =
        let both = or_false (row.slot == slot) (is_taken (without gone rows) slot) (rw other at free) in
        let found = rest (rw both.0 at taken) both.1 in
        (found.0, rw other found.1, found.2)

-- of each slot, what a change does
pub slot_goes : (s : GlobalState) (change : Change) (slot : ℕ) → IsAllowed s → SlotGoes s change slot
slot_goes s (Renew by boot reading) slot allowed = inl refl
slot_goes s (Take by boot reading) slot allowed = inl (taken_map dead (λ row. refl) s.sessions slot)
slot_goes s (Expire session term reading) slot allowed = inl (taken_map (expired session) (slot_of_expired session) s.sessions slot)
slot_goes s (Claim gone by) slot allowed = inl (taken_map (claimed gone by) (slot_of_claimed gone by) s.sessions slot)
slot_goes s (Shift device epoch mode second boot) slot allowed = inl refl
slot_goes s (Open node boot reading) slot allowed = by (is_taken s.sessions slot) ((opened s node boot reading).slot == slot) refl (taken_push s.sessions (opened s node boot reading) slot) refl
  where
    by : (a b : Bool) → is_taken s.sessions slot ≡ a → is_taken (effect s (Open node boot reading)).sessions slot ≡ (is_taken s.sessions slot || ((opened s node boot reading).slot == slot)) → ((opened s node boot reading).slot == slot) ≡ b → SlotGoes s (Open node boot reading) slot
    by true b was now is = inl (now ∙ rw was refl)
    by false true was now is = inr (inl (was, now ∙ rw (was, is) refl))
    by false false was now is = inl (now ∙ rw (was, is) refl)
slot_goes s (Close gone by) slot allowed = by_test (is_taken s.sessions slot) (is_taken (without gone s.sessions) slot) refl refl
  where
    by_test : (a b : Bool) → is_taken s.sessions slot ≡ a → is_taken (without gone s.sessions) slot ≡ b → SlotGoes s (Close gone by) slot
    by_test true true was now = inl (now ∙ sym was)
    by_test false false was now = inl (now ∙ sym was)
    by_test false true was now = absurd (let e = taken_without s.sessions gone slot now in cc)
    by_test true false was now = let row = kept_without s.sessions s.next_session gone slot allowed.rising was now in inr (inr (record { gone = gone; by = by; row = row.0; is = refl; had = row.1; at = row.2; was = was; now = now }))

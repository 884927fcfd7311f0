-- The last term's master learns a state.
use Rattle.std.proofs.Common.{◌≡◌, ◌≢◌, ⊎_elim, ◌⊎◌, ℕ, ◌+◌, ◌<◌, ◌≤◌, Bool, true, false, List, [], ◌∷◌, length, max, Option, Some, None, refl, sym, ◌∙◌, ap, subst, arith}
use Rattle.std.specs.Prelude.{IsSome, IsSomeAnd, ◌==◌, if◌then◌else◌}
use Rattle.std.proofs.lemmas.Bool.Decides.{eqb_tells, leb_tells, nat_tests}
use Rattle.bx_base.specs.declared.names.Mode.{Mode}
use Rattle.bx_global.specs.declared.state.GlobalState.{GlobalState}
use Rattle.bx_rows.specs.declared.session.SessionRow.{SessionRow}
use Rattle.bx_rows.specs.Words.{row_in}
use Rattle.bx_facts.specs.Chains.{Chain, HasRow, IsPlace, last, oldest}
use Rattle.bx_lock_words.specs.declared.words.Word.{Word}
use Rattle.bx_locking.specs.Tables.{AreLocks, IsChained, Side, Term}
use Rattle.bx_locking.proofs.Basics.{go, number_given}
use Rattle.bx_locking.proofs.Hearing.{learns_state}
use Rattle.bx_locking.proofs.Places.{ComesTo}
use Rattle.bx_locking.specs.Terms.{HasTake}
use Rattle.bx_locking.proofs.Terms.{before_since, begins_place, lives_late, since_least, term_most}
use Rattle.bx_lock_tables.specs.Accounts.{account_in, end_of, has_row, has_some, is_marked, row_for, row_within}
use Rattle.bx_lock_tables.specs.declared.accounts.Account.{Account}
use Rattle.bx_master.specs.Masters.{Mastering, entered, last_dead_in, last_dead_of, later as later_of, noting, shows_close, went_on}
use Rattle.bx_lock_steps.specs.Machines.{AreAccounts, HasSeen, IsTied, IsUntied, IsUpTo, entry_from, number_from}
use Rattle.bx_lock_steps.proofs.Accounts.{account_gone, account_kept, kept}

-- ---- who has a row

has_some_is : (o : Option SessionRow) → IsSome o → has_some o ≡ true
has_some_is None some = absurd cc
has_some_is (Some row) some = refl

none_has : (o : Option SessionRow) → (IsSome o → ⊥) → has_some o ≡ false
none_has None none = refl
none_has (Some row) none = absurd (none refl)

pub row_has : (known : GlobalState) (s : ℕ) → HasRow known s → has_row known s ≡ true
row_has known s has = has_some_is (row_in known.sessions s) has

pub row_lacks : (known : GlobalState) (s : ℕ) → (HasRow known s → ⊥) → has_row known s ≡ false
row_lacks known s none = none_has (row_in known.sessions s) none

-- ---- a Close shows

shows_lost : (old new : GlobalState) → length new.sessions + old.next_session < length old.sessions + new.next_session → shows_close (Some (length old.sessions, old.next_session)) new ≡ true
shows_lost old new less = grind (arith, nat_tests, less)

index_after : (m : Mastering) (known : GlobalState) → (m.index ≤ (noting known m).index) × (shows_close m.seen known ≡ true → known.index ≤ (noting known m).index)
index_after m known = by_test (shows_close m.seen known) refl
  where
    by_test : (b : Bool) → shows_close m.seen known ≡ b → (m.index ≤ (noting known m).index) × (shows_close m.seen known ≡ true → known.index ≤ (noting known m).index)
    by_test true so = let e : (noting known m).index ≡ max m.index known.index = ap (λ (b : Bool). if b then max m.index known.index else m.index) so in (omega (arith, e), λ again. omega (arith, e))
    by_test false not_so = let e : (noting known m).index ≡ m.index = ap (λ (b : Bool). if b then max m.index known.index else m.index) not_so in (omega (arith, e), λ shows. let wrong : true ≡ false = sym shows ∙ not_so in absurd cc)

-- ---- it goes on in its term

-- what the ghosts are then
abbrev pub term_learned : Term → Mastering → GlobalState → Term
term_learned term m known = record { view = known; index = m.index; table = λ s b. entry_from (row_for m.accounts s b); listed = term.listed; expiring = term.expiring }

pub record LearnsOn (chain : Chain) (holding : ℕ → ℕ → Option (Mode × ℕ)) (floor : ℕ → ℕ) (said : List Word) (side : Side) (term : Term) (noted : ℕ → ℕ) (m : Mastering) (known : GlobalState) : Type 0 where
  pub locks : AreLocks chain holding floor said side (term_learned term m known)
  pub tied : IsTied chain (term_learned term m known) noted m known

pub learns_on : (chain : Chain) (holding : ℕ → ℕ → Option (Mode × ℕ)) (floor : ℕ → ℕ) (said : List Word) (side : Side) (term : Term) (noted : ℕ → ℕ) (m : Mastering) (knew : ℕ) (p known : GlobalState) → AreLocks chain holding floor said side term
    → AreAccounts side.drawn 0 m.accounts → HasSeen chain knew m p → p.term ≡ (last chain).term → IsTied chain term noted m p → IsPlace chain known → known.term ≡ (last chain).term → knew ≤ known.index
    → LearnsOn chain holding floor said side term noted (went_on known (noting known m)) known
learns_on chain holding floor said side term noted m knew p known locks are seen is_last tied place same_term rises = record {
  locks = learns_state chain holding floor said side term known (noting known m).index (λ s b. entry_from (row_for (kept known m.accounts) s b)) locks place same_term
      (let e = ap (λ (x : GlobalState). x.index) tied.view in let i = seen.index in omega (arith, e, i, rises))
      (record {
        kept = λ s b has. ap entry_from (row_stays s b has) ∙ sym (tied.table s b);
        gone = λ s b none. ap (λ (x : Option Account). entry_from (row_within x b)) (account_gone side.drawn known 0 m.accounts s are (row_lacks known s none));
      })
      (let e = tied.index in let l = (index_after m known).0 in omega (arith, e, l))
      (λ u has none. ⊎_elim
      (λ stays. absurd (none stays))
      (λ less. (index_after m known).1 (ap (λ (o : Option (ℕ × ℕ)). shows_close o known) seen.seen ∙ shows_lost p known less))
      (step.lost u (subst (λ (x : GlobalState). HasRow x u) tied.view has)));
  tied = record {
    view = refl;
    index = refl;
    table = λ s b. refl;
    listed = λ s b has. ⊎_elim
        (λ later. let u = tied.unknown s later.1 in u.listed b ∙ sym (ap number_from (row_stays s b has ∙ ap (λ (x : Option Account). row_within x b) u.account)))
        (λ before. tied.listed s b (step.rows s before.1 has) ∙ sym (ap number_from (row_stays s b has)))
        (leb_tells p.next_session s);
    expiring = λ s has. ⊎_elim
        (λ later. let u = tied.unknown s later.1 in u.expiring ∙ sym (ap is_marked (stays s has ∙ u.account)))
        (λ before. tied.expiring s (step.rows s before.1 has) ∙ sym (ap is_marked (stays s has)))
        (leb_tells p.next_session s);
    noted_is = λ s has. ⊎_elim
        (λ later. let u = tied.unknown s later.1 in u.noted_is ∙ sym (ap end_of (stays s has ∙ u.account)))
        (λ before. tied.noted_is s (step.rows s before.1 has) ∙ sym (ap end_of (stays s has)))
        (leb_tells p.next_session s);
    unknown = λ s later. let u = tied.unknown s (let n = step.next in omega (arith, n, later)) in record {
      account = account_gone side.drawn known 0 m.accounts s are (lacks s later);
      listed = u.listed;
      expiring = u.expiring;
      noted_is = u.noted_is;
    };
    earlier = λ u has before. tied.earlier u (step.rows u (let b = begins_place chain.found chain.first chain.changes p locks.chained.found seen.place is_last in omega (arith, b, before)) has) before;
  };
}
  where
    step : ComesTo p known
    step = go chain p known seen.place place (let i = seen.index in omega (arith, i, rises))

    stays : (s : ℕ) → HasRow known s → account_in (kept known m.accounts) s ≡ account_in m.accounts s
    stays s has = account_kept side.drawn known 0 m.accounts s are (row_has known s has)

    row_stays : (s b : ℕ) → HasRow known s → row_for (kept known m.accounts) s b ≡ row_for m.accounts s b
    row_stays s b has = ap (λ (x : Option Account). row_within x b) (stays s has)

    lacks : (s : ℕ) → known.next_session ≤ s → has_row known s ≡ false
    lacks s later = row_lacks known s (λ has. let k = number_given chain locks.chained known place s has in omega (arith, k, later))

-- ---- it enters its term

none_or : (row : SessionRow) (b : Bool) → (row.dead == 0) ≡ b → (b ≡ true → ⊥) → (row.dead == 0) ≡ false
none_or row true is never = absurd (never refl)
none_or row false is never = is

-- the last of those that were dead only rises
up_later : (t n : ℕ) (o : Option ℕ) → IsUpTo o t → t ≤ later_of n o
up_later t n None up_to = absurd up_to
up_later t n (Some m) up_to = omega (arith, up_to)

up_itself : (n : ℕ) (o : Option ℕ) → n ≤ later_of n o
up_itself n None = omega arith
up_itself n (Some m) = omega arith

up_one : (t : ℕ) (o : Option ℕ) (row : SessionRow) → IsUpTo o t → IsUpTo (last_dead_of o row) t
up_one t o row up_to = by_test (row.dead == 0) refl
  where
    by_test : (b : Bool) → (row.dead == 0) ≡ b → IsUpTo (last_dead_of o row) t
    by_test true so = subst (λ (b : Bool). IsUpTo (if b then o else Some (later_of row.number o)) t) (sym so) up_to
    by_test false not_so = subst (λ (b : Bool). IsUpTo (if b then o else Some (later_of row.number o)) t) (sym not_so) (up_later t row.number o up_to)

up_rows : (t : ℕ) (o : Option ℕ) (rows : List SessionRow) → IsUpTo o t → IsUpTo (last_dead_in o rows) t
up_rows t o [] up_to = up_to
up_rows t o (row ∷ rows) up_to = up_rows t (last_dead_of o row) rows (up_one t o row up_to)

dead_up : (o : Option ℕ) (rows : List SessionRow) (t : ℕ) (row : SessionRow) → row_in rows t ≡ Some row → (row.dead == 0) ≡ false → IsUpTo (last_dead_in o rows) t
dead_up o [] t row is dead = absurd cc
dead_up o (one ∷ rest) t row is dead = ⊎_elim
    (λ same.
    let here : row_in (one ∷ rest) t ≡ Some one = ap (λ (b : Bool). if b then Some one else row_in rest t) same.0 in
    let both : Some one ≡ Some row = sym here ∙ is in
    let e : one ≡ row = cc in
    let not_zero : (one.dead == 0) ≡ false = ap (λ (x : SessionRow). x.dead == 0) e ∙ dead in
    up_rows t (last_dead_of o one) rest
    (subst (λ (b : Bool). IsUpTo (if b then o else Some (later_of one.number o)) t) (sym not_zero) (let u = up_itself one.number o in let n = same.1 in omega (arith, u, n))))
    (λ other.
    let there : row_in (one ∷ rest) t ≡ row_in rest t = ap (λ (b : Bool). if b then Some one else row_in rest t) other.0 in
    dead_up (last_dead_of o one) rest t row (sym there ∙ is) dead)
    (eqb_tells one.number t)

alive : (o : Option SessionRow) (row : SessionRow) → o ≡ Some row → (row.dead == 0) ≡ true → IsSomeAnd o (λ row. row.dead ≡ 0)
alive None row is zero = absurd cc
alive (Some other) row is zero = let e : other ≡ row = cc in let f = ap (λ (x : SessionRow). x.dead) e in grind (arith, nat_tests, f, zero)

-- who is of an earlier term, and still has a row, was dead when the term became known
pub earlier_dead : (chain : Chain) (known : GlobalState) → IsChained chain → IsPlace chain known → known.term ≡ (last chain).term → (chain.found ≡ 0) ⊎ HasTake chain.changes
    → (t : ℕ) → HasRow known t → t < oldest chain → IsUpTo (last_dead_in None known.sessions) t
earlier_dead chain known chained place same_term began t has before = by_row (row_in known.sessions t) refl has
  where
    by_row : (o : Option SessionRow) → row_in known.sessions t ≡ o → IsSome o → IsUpTo (last_dead_in None known.sessions) t
    by_row None none some = absurd cc
    by_row (Some row) found some = dead_up None known.sessions t row found (none_or row (row.dead == 0) refl (λ zero.
        let l = lives_late chain.found chain.first chain.changes known t chained.found began place same_term (alive (row_in known.sessions t) row found zero) in omega (arith, l, before)))

pub learns_first : (chain : Chain) (holding : ℕ → ℕ → Option (Mode × ℕ)) (floor : ℕ → ℕ) (said : List Word) (side : Side) (term : Term) (noted : ℕ → ℕ) (m : Mastering) (knew : ℕ) (known : GlobalState) → AreLocks chain holding floor said side term
    → IsUntied chain term noted → IsPlace chain known → known.term ≡ (last chain).term
    → (m.seen ≡ None) ⊎ ((p : GlobalState) × (HasSeen chain knew m p) × (p.term ≢ (last chain).term))
    → (chain.found ≡ 0) ⊎ HasTake chain.changes
    → LearnsOn chain holding floor said side term noted (entered known (noting known m)) known
learns_first chain holding floor said side term noted m knew known locks untied place same_term seen began = record {
  locks = learns_state chain holding floor said side term known (noting known m).index (λ s b. None) locks place same_term (untied.first known place same_term)
      (record { kept = λ s b has. sym (untied.table s b); gone = λ s b none. refl })
      (let e = untied.index in omega (arith, e))
      (λ u has none. (index_after m known).1 (shows u has none));
  tied = record {
    view = refl;
    index = refl;
    table = λ s b. refl;
    listed = λ s b has. untied.listed s b;
    expiring = λ s has. untied.expiring s;
    noted_is = λ s has. untied.noted_is s;
    unknown = λ s later. record { account = refl; listed = λ b. untied.listed s b; expiring = untied.expiring s; noted_is = untied.noted_is s };
    earlier = λ t has before. earlier_dead chain known locks.chained place same_term began t has before;
  };
}
  where
    shows : (u : ℕ) → HasRow term.view u → (HasRow known u → ⊥) → shows_close m.seen known ≡ true
    shows u has none = ⊎_elim
        (λ nothing. ap (λ (o : Option (ℕ × ℕ)). shows_close o known) nothing)
        (λ earlier.
        let p = earlier.0 in let is = earlier.1 in
        let most = term_most chain.first chain.changes p is.place in
        let differs = earlier.2 in
        let b = before_since chain.first chain.changes p is.place (omega (arith, most, differs)) in
        let v = since_least chain.first chain.changes term.view locks.term_is.place locks.term_is.term in
        let one = go chain p term.view is.place locks.term_is.place (omega (arith, b, v)) in
        let two = go chain term.view known locks.term_is.place place (untied.first known place same_term) in
        let fewer = one.fewer in
        ap (λ (o : Option (ℕ × ℕ)). shows_close o known) is.seen ∙ shows_lost p known
        (⊎_elim (λ stays. absurd (none stays)) (λ less. omega (arith, less, fewer)) (two.lost u has)))
        seen

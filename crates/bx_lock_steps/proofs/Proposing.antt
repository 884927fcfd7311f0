-- What a lock server hands back at a tick, to be proposed: it fits.
use Rattle.std.proofs.Common.{◌≡◌, inl, inr, ℕ, ◌+◌, ◌<◌, ◌≤◌, Bool, true, false, List, [], ◌∷◌, Option, Some, None, refl, sym, ◌∙◌, ap, subst, arith}
use Rattle.std.specs.Prelude.{IsSomeAnd, ltb, ◌==◌, ◌&&◌, not, if◌then◌else◌}
use Rattle.std.proofs.lemmas.Bool.Decides.{nat_tests}
use Rattle.bx_global.specs.declared.change.Change.{Change}
use Rattle.bx_global.specs.declared.change.Change.TheVariants.{Renew, Take, Open, Expire}
use Rattle.bx_global.specs.declared.state.GlobalState.{GlobalState}
use Rattle.bx_rows.specs.declared.session.SessionRow.{SessionRow}
use Rattle.bx_rows.specs.Words.{row_in}
use Rattle.bx_facts.specs.Chains.{Chain, LivesIn, with_change}
use Rattle.bx_lock_words.specs.declared.words.Word.{Word}
use Rattle.bx_locking.specs.Leases.{AreLeases}
use Rattle.bx_locking.specs.Owned.{IsRowIn}
use Rattle.bx_locking.specs.Tables.{AreLocks, Term}
use Rattle.bx_locking.proofs.Leases.{Marks, hands}
use Rattle.bx_locking.proofs.Terms.{lives_late}
use Rattle.bx_master.specs.Events.{change_of, end_for, expiry, first_past, is_past, marking, take_change}
use Rattle.bx_master.specs.Masters.{Mastering, is_master}
use Rattle.bx_lock_steps.proofs.Accounts.{marked_in_order, marks_it, misses, passes, tested}
use Rattle.bx_lock_steps.proofs.Chains.{row_found}
use Rattle.bx_lock_steps.proofs.Releasing.{both_true}
use Rattle.bx_lock_steps.proofs.Renewing.{expires_on, expiring_it, term_marked}
use Rattle.bx_lock_steps.proofs.Serving.{After, IsScene, Scene, Server, Spoken, Stands, late, tied}

-- ---- a change that is no expiry

same_marks : (expiring : ℕ → Bool) → Marks expiring expiring
same_marks expiring = record { each = λ s is. is }

pub hands_renew : (chain : Chain) (greatest : ℕ) (handed : List Change) (promised : List (ℕ × ℕ)) (noted ends : ℕ → ℕ) (expiring : ℕ → Bool) (by boot reading : ℕ) → AreLeases chain greatest handed promised noted ends expiring
    → AreLeases chain greatest (Renew by boot reading ∷ handed) promised noted ends expiring
hands_renew chain greatest handed promised noted ends expiring by boot reading are =
    hands chain greatest handed promised noted ends expiring expiring (Renew by boot reading) are (same_marks expiring) (λ s t r is. absurd cc) (λ b o r is. absurd cc)

pub hands_open : (chain : Chain) (greatest : ℕ) (handed : List Change) (promised : List (ℕ × ℕ)) (noted ends : ℕ → ℕ) (expiring : ℕ → Bool) (node boot reading : ℕ) → AreLeases chain greatest handed promised noted ends expiring
    → AreLeases chain greatest (Open node boot reading ∷ handed) promised noted ends expiring
hands_open chain greatest handed promised noted ends expiring node boot reading are =
    hands chain greatest handed promised noted ends expiring expiring (Open node boot reading) are (same_marks expiring) (λ s t r is. absurd cc) (λ b o r is. absurd cc)

hands_one : (chain : Chain) (greatest : ℕ) (handed : List Change) (promised : List (ℕ × ℕ)) (noted ends : ℕ → ℕ) (expiring : ℕ → Bool) (by boot reading : ℕ) → AreLeases chain greatest handed promised noted ends expiring → reading ≤ greatest
    → AreLeases chain greatest (Take by boot reading ∷ handed) promised noted ends expiring
hands_one chain greatest handed promised noted ends expiring by boot reading are most =
    hands chain greatest handed promised noted ends expiring expiring (Take by boot reading) are (same_marks expiring) (λ s t r is. absurd cc) (λ b o r is. let same : reading ≡ r = cc in omega (arith, same, most))

pub hands_take : (chain : Chain) (greatest : ℕ) (handed : List Change) (promised : List (ℕ × ℕ)) (noted ends : ℕ → ℕ) (expiring : ℕ → Bool) (known : GlobalState) (reading : ℕ) (m : Mastering) → AreLeases chain greatest handed promised noted ends expiring → reading ≤ greatest
    → AreLeases chain greatest (with_change (take_change known reading m) handed) promised noted ends expiring
hands_take chain greatest handed promised noted ends expiring known reading m are most =
    let P : Bool → Type 0 = λ b. AreLeases chain greatest (with_change (if b then Some (Take m.server m.boot reading) else None) handed) promised noted ends expiring in
    elim (tested (ltb (known.term_end + 500) reading)) [
      | passes is ↦ subst P (sym is) (hands_one chain greatest handed promised noted ends expiring m.server m.boot reading are most)
      | misses is_not ↦ subst P (sym is_not) are
    ]

-- a Take is no mark
pub no_mark : (known : GlobalState) (reading : ℕ) (m : Mastering) → marking (take_change known reading m) m ≡ m
no_mark known reading m =
    let P : Bool → Type 0 = λ b. marking (if b then Some (Take m.server m.boot reading) else None) m ≡ m in
    elim (tested (ltb (known.term_end + 500) reading)) [
      | passes is ↦ subst P (sym is) refl
      | misses is_not ↦ subst P (sym is_not) refl
    ]

-- ---- whose end is past

pub record IsPast (known : GlobalState) (reading : ℕ) (m : Mastering) (rows : List SessionRow) (s : ℕ) : Type 0 where
  pub row : SessionRow
  pub is : IsRowIn rows row
  pub number : row.number ≡ s
  pub past : is_past known reading m row ≡ true

past_is : (known : GlobalState) (reading : ℕ) (m : Mastering) (rows : List SessionRow) (s : ℕ) → first_past known reading m rows ≡ Some s → IsPast known reading m rows s
past_is known reading m [] s is = absurd cc
past_is known reading m (row ∷ rows) s is = by_test (past_is known reading m rows s) (is_past known reading m row) refl is
  where
    by_test : (first_past known reading m rows ≡ Some s → IsPast known reading m rows s) → (b : Bool) → is_past known reading m row ≡ b → (if b then Some row.number else first_past known reading m rows) ≡ Some s → IsPast known reading m (row ∷ rows) s
    by_test later true so found = let same : row.number ≡ s = cc in record { row = row; is = inl refl; number = same; past = so }
    by_test later false not_so found = let k = later found in record { row = k.row; is = inr k.is; number = k.number; past = k.past }

-- ---- what it hands back

abbrev pub handing : Scene → Option Change → Scene
handing x change = record x { handed = with_change change x.handed }

module _ (x : Scene) (good : IsScene x) (first : Spoken) (m : Mastering) (words : List Word) (a : After x first m words) (reading : ℕ) (most : reading ≤ x.greatest) where
  -- the data after it
  hands_back : (change : Option Change) (new : Mastering) (term : Term) → AreLocks x.chain x.holding x.floor a.now.said x.side term → AreLeases x.chain x.greatest (with_change change x.handed) a.now.promised a.now.noted x.ends term.expiring
      → Stands (handing x change) first (record { said = a.now.said; term = term; promised = a.now.promised; noted = a.now.noted }) new → Server (handing x change) a.now.said new → After (handing x change) first new words
  hands_back change new term locks leases stands server = record {
    now = record { said = a.now.said; term = term; promised = a.now.promised; noted = a.now.noted };
    locks = locks;
    leases = leases;
    stands = stands;
    server = server;
    promises = a.promises;
    words_fit = a.words_fit;
    said_on = a.said_on;
    promised_on = a.promised_on;
    put_out = a.put_out;
  }

  stands_so : (change : Option Change) → Stands (handing x change) first a.now m
  stands_so change = elim a.stands [
    | tied is of_last ↦ tied is of_last
    | late before same same_noted ↦ late before same same_noted
  ]

  server_so : (change : Option Change) → Server (handing x change) a.now.said m
  server_so change = record {
    server = a.server.server;
    boot_is = a.server.boot_is;
    term = a.server.term;
    seen = a.server.seen;
    index_fits = a.server.index_fits;
    accounts = a.server.accounts;
    noted = a.server.noted;
    waits = a.server.waits;
  }

  abbrev Hands : Option Change → Type 0
  Hands change = After (handing x change) first (marking change m) words

  none : Hands None
  none = hands_back None m a.now.term a.locks a.leases (stands_so None) (server_so None)

  renews : Hands (Some (Renew m.server m.boot reading))
  renews = hands_back (Some (Renew m.server m.boot reading)) m a.now.term a.locks
      (hands_renew x.chain x.greatest x.handed a.now.promised a.now.noted x.ends a.now.term.expiring m.server m.boot reading a.leases) (stands_so (Some (Renew m.server m.boot reading))) (server_so (Some (Renew m.server m.boot reading)))

  takes_over : Hands (take_change x.known reading m)
  takes_over =
      subst (λ (n : Mastering). After (handing x (take_change x.known reading m)) first n words) (sym (no_mark x.known reading m))
      (hands_back (take_change x.known reading m) m a.now.term a.locks
      (hands_take x.chain x.greatest x.handed a.now.promised a.now.noted x.ends a.now.term.expiring x.known reading m a.leases most)
      (stands_so (take_change x.known reading m)) (server_so (take_change x.known reading m)))

  expires : (s : ℕ) → IsPast x.known reading m x.known.sessions s → Hands (Some (Expire s x.known.term reading))
  expires s past = elim a.stands [
    | tied is of_last ↦
        let of_term = lives_late x.chain.found x.chain.first x.chain.changes x.known s a.locks.chained.found (good.began of_last) good.place of_last alive in
        let e = expires_on x.chain x.holding x.floor a.now.said x.side a.now.term x.greatest x.handed a.now.promised a.now.noted x.ends m x.known reading s past.row a.locks a.leases is a.server.accounts good.place of_last of_term there behind most in
        hands_back (Some (Expire s x.known.term reading)) (expiring_it s m) (term_marked a.now.term s) e.locks e.leases (tied e.tied of_last) server
    | late before same same_noted ↦
        hands_back (Some (Expire s x.known.term reading)) (expiring_it s m) a.now.term a.locks
        (hands x.chain x.greatest x.handed a.now.promised a.now.noted x.ends a.now.term.expiring a.now.term.expiring (Expire s x.known.term reading) a.leases (same_marks a.now.term.expiring)
        (λ u v r is. let two : x.known.term ≡ v = cc in let three : reading ≡ r = cc in (omega (arith, before, two), omega (arith, three, most), λ again. absurd (omega (arith, before, two, again))))
        (λ by boot r is. absurd cc))
        (late before same same_noted) server
  ]
    where
      both : ((past.row.dead == 0) ≡ true) × (ltb (end_for x.known past.row.number m + 500) reading ≡ true)
      both = both_true (past.row.dead == 0) (ltb (end_for x.known past.row.number m + 500) reading) past.past

      there : row_in x.known.sessions s ≡ Some past.row
      there = ap (row_in x.known.sessions) (sym past.number) ∙ row_found x.known.sessions past.row x.known.next_session (good.states.rising x.known good.place) past.is

      lives_by : (o : Option SessionRow) (row : SessionRow) → o ≡ Some row → row.dead ≡ 0 → IsSomeAnd o (λ r. r.dead ≡ 0)
      lives_by None row is zero = absurd cc
      lives_by (Some other) row is zero = let same : other ≡ row = cc in ap (λ (r : SessionRow). r.dead) same ∙ zero

      alive : LivesIn x.known s
      alive = let t = both.0 in lives_by (row_in x.known.sessions s) past.row there (grind (arith, nat_tests, t))

      behind : end_for x.known s m + 500 < reading
      behind = let t = both.1 in let l : end_for x.known past.row.number m + 500 < reading = grind (arith, nat_tests, t) in let e = ap (λ (n : ℕ). end_for x.known n m) past.number in omega (arith, l, e)

      server : Server (handing x (Some (Expire s x.known.term reading))) a.now.said (expiring_it s m)
      server = record {
        server = a.server.server;
        boot_is = a.server.boot_is;
        term = a.server.term;
        seen = a.server.seen;
        index_fits = a.server.index_fits;
        accounts = marked_in_order x.side.drawn m.accounts s a.server.accounts;
        noted = λ t. let e = (marks_it x.side.drawn 0 m.accounts s a.server.accounts).ends t in let n = a.server.noted t in omega (arith, e, n);
        waits = a.server.waits;
      }

  by_expiry : (o : Option ℕ) → first_past x.known reading m x.known.sessions ≡ o → Hands (expiry x.known reading m o)
  by_expiry None is = takes_over
  by_expiry (Some s) is = expires s (past_is x.known reading m x.known.sessions s is)

  pub asks : is_master m x.known ≡ true → Hands (change_of x.known reading m)
  asks master =
      let B : Bool = not (ltb x.known.term_end reading) && ltb x.known.term_end (reading + 4000) in
      let P : Bool → Bool → Type 0 = λ b c. Hands (if not b then take_change x.known reading m else if c then Some (Renew m.server m.boot reading) else expiry x.known reading m (first_past x.known reading m x.known.sessions)) in
      let inner : P true B = elim (tested B) [
        | passes is ↦ subst (P true) (sym is) renews
        | misses is_not ↦ subst (P true) (sym is_not) (by_expiry (first_past x.known reading m x.known.sessions) refl)
      ] in
      subst (λ (b : Bool). P b B) (sym master) inner

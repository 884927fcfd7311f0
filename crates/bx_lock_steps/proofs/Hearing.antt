-- A lock server hears a word, or ticks: what it keeps fits again.
use Rattle.std.proofs.Common.{◌≡◌, inl, ⊎_elim, ℕ, ◌≤◌, Bool, true, List, [], ◌∷◌, ◌++◌, Option, Some, None, refl, sym, ◌∙◌, ap, subst, arith, append_assoc, append-nil}
use Rattle.std.specs.Prelude.{◌==◌, ◌&&◌, not, if◌then◌else◌}
use Rattle.std.specs.List.{AllByRecursion, cons_option}
use Rattle.std.proofs.lemmas.Bool.Decides.{eqb_tells, nat_tests}
use Rattle.bx_global.proofs.Kept.{all-filter, all-push, all_is}
use Rattle.bx_rows.specs.Conditions.{Fits}
use Rattle.bx_rows.specs.Words.{row_in as session_row}
use Rattle.bx_rows.specs.declared.session.SessionRow.{SessionRow}
use Rattle.bx_facts.specs.Chains.{LivesIn, oldest}
use Rattle.bx_lock_words.specs.Words.{IsWord}
use Rattle.bx_lock_words.specs.declared.words.Release.{Release}
use Rattle.bx_lock_words.specs.declared.words.Revoke.{Revoke}
use Rattle.bx_lock_words.specs.declared.words.Want.{Want}
use Rattle.bx_lock_words.specs.declared.words.Word.{Word}
use Rattle.bx_lock_words.specs.declared.words.Word.TheVariants.{Wants, Revokes, Releases, Renews, Leases, Grants as GrantsWord}
use Rattle.bx_locking.specs.Leases.{AreLeases, IsPromised}
use Rattle.bx_locking.specs.Tables.{AreLocks, Term}
use Rattle.bx_locking.specs.Words.{IsSaid}
use Rattle.bx_locking.proofs.Basics.{lives_has}
use Rattle.bx_locking.proofs.Late.{late_revoke, leases_say_little, says_little}
use Rattle.bx_locking.proofs.Leases.{promises_late, still_promised}
use Rattle.bx_locking.proofs.Masters.{revokes_entry}
use Rattle.bx_lock_tables.specs.Accounts.{end_in, row_for, rows_at}
use Rattle.bx_lock_tables.specs.Queue.{has_newer, is_other, queued, revoke_of, revokes_for, still_waiting, without}
use Rattle.bx_lock_tables.specs.Rows.{clashes, clashing, lives}
use Rattle.bx_lock_tables.specs.declared.rows.Row.{Row}
use Rattle.bx_lock_tables.specs.declared.verdict.Verdict.{Verdict}
use Rattle.bx_lock_tables.specs.declared.verdict.Verdict.TheVariants.{Refuses, Waits, Grants}
use Rattle.bx_master.specs.Events.{carrying, concerns, grant_of, hear, hear_release, hear_renew, hear_want, let_go, may_speak, new_end, released, revokes_again, served, served_if, serving, serving_one, tick, tried, until_in, verdict_on, wanted}
use Rattle.bx_master.specs.Masters.{Mastering, Served, is_master, listing, waits_on}
use Rattle.bx_lock_steps.specs.Machines.{IsOwnRow, entry_from}
use Rattle.bx_lock_steps.proofs.Accounts.{NotesEnd, listed_in_order, lists, misses, noted_in_order, notes_end, passes, row_owned, rows_found, tested}
use Rattle.bx_lock_steps.proofs.Releasing.{Speaks, both_true, carries_on, freed, frees_on, speaks, term_carrying, term_freed}
use Rattle.bx_lock_steps.proofs.Functions.{one_of}
use Rattle.bx_lock_steps.proofs.Renewing.{renewing, renews_on}
use Rattle.bx_lock_steps.proofs.Verdicts.{alive_lives}
use Rattle.bx_lock_steps.proofs.Serving.{After, IsScene, Scene, Server, Spoken, Stands, before_now, grants, late, moves, says, session_fits, tied, waits}

-- ---- nothing is said

pub no_more : (x : Scene) (first : Spoken) (m : Mastering) (words : List Word) → After x first m words → After x first m (words ++ [])
no_more x first m words a = subst (λ (ws : List Word). After x first m ws) (sym (append-nil words)) a

-- what is done and said, by an equation
pub as_served : (x : Scene) (first : Spoken) (words : List Word) (s t : Served) → s ≡ t → After x first t.0 (words ++ t.1) → After x first s.0 (words ++ s.1)
as_served x first words s t is a = subst (λ (r : Served). After x first r.0 (words ++ r.1)) (sym is) a

-- ---- the wants that wait

module _ (x : Scene) (good : IsScene x) (first : Spoken) (reading : ℕ) where
  tries : (m : Mastering) (words : List Word) (w : Want) (a : After x first m words) → IsSaid a.now.said (Wants w) → After x first (tried (verdict_on x.known reading w m) w m).0 (words ++ (tried (verdict_on x.known reading w m) w m).1)
  tries m words w a has = by_verdict (verdict_on x.known reading w m) refl
    where
      by_verdict : (v : Verdict) → verdict_on x.known reading w m ≡ v → After x first (tried v w m).0 (words ++ (tried v w m).1)
      by_verdict Refuses is = no_more x first m words a
      by_verdict Waits is = no_more x first (waits_on w m) words (waits x good first m words (m.waiting ++ w ∷ []) a (all-push (λ (v : Want). IsSaid a.now.said (Wants v)) m.waiting w a.server.waits has))
      by_verdict (Grants row) is = grants x good first m words reading w row a has is

  one_served : (only : Option ℕ) (m : Mastering) (words : List Word) (w : Want) (a : After x first m words) → IsSaid a.now.said (Wants w) → After x first (serving_one x.known reading only w m).0 (words ++ (serving_one x.known reading only w m).1)
  one_served only m words w a has = elim (tested (concerns only w.block)) [
    | passes is ↦ as_served x first words (serving_one x.known reading only w m) (tried (verdict_on x.known reading w m) w m)
        (ap (λ (b : Bool). if b then tried (verdict_on x.known reading w m) w m else (waits_on w m, [])) is) (tries m words w a has)
    | misses is_not ↦ as_served x first words (serving_one x.known reading only w m) (waits_on w m, [])
        (ap (λ (b : Bool). if b then tried (verdict_on x.known reading w m) w m else (waits_on w m, [])) is_not)
        (no_more x first (waits_on w m) words (waits x good first m words (m.waiting ++ w ∷ []) a (all-push (λ (v : Want). IsSaid a.now.said (Wants v)) m.waiting w a.server.waits has)))
  ]

  serves : (only : Option ℕ) (ws : List Want) (m : Mastering) (words : List Word) → After x first m words → AllByRecursion (λ (w : Want). IsSaid first.said (Wants w)) ws → After x first (serving x.known reading only ws m).0 (words ++ (serving x.known reading only ws m).1)
  serves only [] m words a all = no_more x first m words a
  serves only (w ∷ ws) m words a all =
      let one = one_served only m words w a (a.said_on (Wants w) all.0) in
      let two = serves only ws (serving_one x.known reading only w m).0 (words ++ (serving_one x.known reading only w m).1) one all.1 in
      subst (λ (said : List Word). After x first (serving x.known reading only (w ∷ ws) m).0 said)
      (append_assoc words (serving_one x.known reading only w m).1 (serving x.known reading only ws (serving_one x.known reading only w m).0).1) two

-- ---- one run of steps, and then another

rebased : (x : Scene) (first : Spoken) (m : Mastering) (words : List Word) (a : After x first m words) → After x a.now m []
rebased x first m words a = record {
  now = a.now;
  locks = a.locks;
  leases = a.leases;
  stands = elim a.stands [
    | tied is of_last ↦ tied is of_last
    | late before same same_noted ↦ late before refl refl
  ];
  server = a.server;
  promises = a.promises;
  words_fit = a.words_fit;
  said_on = λ word has. has;
  promised_on = λ s e has. has;
  put_out = tt;
}

pub all_append : {A : Type 0} (P : A → Type 0) (xs ys : List A) → AllByRecursion P xs → AllByRecursion P ys → AllByRecursion P (xs ++ ys)
all_append {A} P [] ys all more = more
all_append {A} P (one ∷ xs) ys all more = (all.0, all_append P xs ys all.1 more)

then_after : (x : Scene) (first : Spoken) (m new : Mastering) (words more : List Word) (a : After x first m words) → After x a.now new more → After x first new (words ++ more)
then_after x first m new words more a b = record {
  now = b.now;
  locks = b.locks;
  leases = b.leases;
  stands = elim b.stands [
    | tied is of_last ↦ tied is of_last
    | late before same same_noted ↦ elim a.stands [
      | tied is of_last ↦ absurd (omega (arith, before, of_last))
      | late also was was_noted ↦ late before (same ∙ was) (same_noted ∙ was_noted)
    ]
  ];
  server = b.server;
  promises = b.promises;
  words_fit = b.words_fit;
  said_on = λ word has. b.said_on word (a.said_on word has);
  promised_on = λ s e has. b.promised_on s e (a.promised_on s e has);
  put_out = all_append (λ (word : Word). IsSaid b.now.said word) words more
      (all_is (λ (word : Word). IsSaid a.now.said word) (λ (word : Word). IsSaid b.now.said word) (λ word has. b.said_on word has) words a.put_out) b.put_out;
}

serves_all : (x : Scene) (good : IsScene x) (first : Spoken) (reading : ℕ) (only : Option ℕ) (m : Mastering) (words : List Word) → After x first m words → After x first (served x.known reading only m).0 (words ++ (served x.known reading only m).1)
serves_all x good first reading only m words a =
    then_after x first m (served x.known reading only m).0 words (served x.known reading only m).1 a
    (serves x good a.now reading only m.waiting (record m { waiting = [] }) [] (waits x good a.now m [] [] (rebased x first m words a) tt) a.server.waits)

-- ---- what stands against a want is asked back

front_or : (words more : List Word) (o : Option Word) → (words ++ cons_option o []) ++ more ≡ words ++ cons_option o more
front_or words more None = ap (λ (ws : List Word). ws ++ more) (append-nil words)
front_or words more (Some word) = append_assoc words (word ∷ []) more

module _ (x : Scene) (good : IsScene x) (first : Spoken) where
  abbrev revoke_now : Want → Row → Revoke
  revoke_now w row = record { session = row.session; block = w.block; number = row.number; asking = w.session }

  revokes : (m : Mastering) (words : List Word) (w : Want) (row : Row) → After x first m words → IsWord (Wants w) → Fits x.known.next_session → row_for m.accounts row.session w.block ≡ Some row → row.stands ≡ true → LivesIn x.known row.session
      → After x first m (words ++ Revokes (revoke_now w row) ∷ [])
  revokes m words w row a fit next there stands alive = elim a.stands [
    | tied is of_last ↦ says x good first m m words (Revokes (revoke_now w row)) a a.now.term a.now.promised a.now.noted
        (revokes_entry x.chain x.holding x.floor a.now.said x.side a.now.term (revoke_now w row) (record { mode = row.mode; number = row.number; index = row.index }) a.locks
        (is.table row.session w.block ∙ ap entry_from there ∙ ap (λ (b : Bool). if b then Some (record { mode = row.mode; number = row.number; index = row.index }) else None) stands) refl)
        a.leases (tied is of_last) a.server (λ s e wrong. absurd cc) (λ s e one. one) word_fits
    | late before same same_noted ↦ says x good first m m words (Revokes (revoke_now w row)) a a.now.term a.now.promised a.now.noted
        (says_little x.chain x.holding x.floor a.now.said x.side a.now.term (Revokes (revoke_now w row)) a.locks
        (late_revoke (oldest x.chain) x.side.drawn (revoke_now w row) (before_now x good first a.now.term a.now.said row.session a.locks before (lives_has x.known row.session alive)) owned.number))
        a.leases (late before same same_noted) a.server (λ s e wrong. absurd cc) (λ s e one. one) word_fits
  ]
    where
      owned : IsOwnRow x.side.drawn row.session row
      owned = row_owned x.side.drawn 0 m.accounts row.session w.block row a.server.accounts there

      word_fits : IsWord (Revokes (revoke_now w row))
      word_fits = (session_fits x good first a.now.term a.now.said row.session a.locks (lives_has x.known row.session alive) next, fit.1, owned.number_fits, fit.0)

  one_revoked : (m : Mastering) (words : List Word) (w : Want) (row : Row) → After x first m words → IsWord (Wants w) → Fits x.known.next_session → row_for m.accounts row.session w.block ≡ Some row → After x first m (words ++ cons_option (revoke_of x.known w row) [])
  one_revoked m words w row a fit next there = elim (tested (clashes w.session w.mode row && lives x.known row.session)) [
    | passes is ↦
        let both = both_true (clashes w.session w.mode row) (lives x.known row.session) is in
        let clash = both_true (row.stands && not (row.session == w.session)) (clashing w.mode row.mode) both.0 in
        let stands = both_true row.stands (not (row.session == w.session)) clash.0 in
        subst (λ (b : Bool). After x first m (words ++ cons_option (if b then Some (Revokes (revoke_now w row)) else None) [])) (sym is)
        (revokes m words w row a fit next there stands.0 (alive_lives (session_row x.known.sessions row.session) both.1))
    | misses is_not ↦ subst (λ (b : Bool). After x first m (words ++ cons_option (if b then Some (Revokes (revoke_now w row)) else None) [])) (sym is_not) (no_more x first m words a)
  ]

  all_revoked : (m : Mastering) (words : List Word) (w : Want) (rows : List Row) → After x first m words → IsWord (Wants w) → Fits x.known.next_session → AllByRecursion (λ (row : Row). row_for m.accounts row.session w.block ≡ Some row) rows
      → After x first m (words ++ revokes_for x.known rows w)
  all_revoked m words w [] a fit next there = no_more x first m words a
  all_revoked m words w (row ∷ rows) a fit next there =
      subst (λ (said : List Word). After x first m said) (front_or words (revokes_for x.known rows w) (revoke_of x.known w row))
      (all_revoked m (words ++ cons_option (revoke_of x.known w row) []) w rows (one_revoked m words w row a fit next there.0) fit next there.1)

  again_revoked : (m : Mastering) (words : List Word) (ws : List Want) → After x first m words → Fits x.known.next_session → AllByRecursion (λ (w : Want). IsSaid first.said (Wants w)) ws → After x first m (words ++ revokes_again x.known m.accounts ws)
  again_revoked m words [] a next all = no_more x first m words a
  again_revoked m words (w ∷ ws) a next all =
      let one = all_revoked m words w (rows_at m.accounts w.block) a (a.words_fit (Wants w) (a.said_on (Wants w) all.0)) next (rows_found x.side.drawn 0 m.accounts w.block a.server.accounts) in
      subst (λ (said : List Word). After x first m said) (append_assoc words (revokes_for x.known (rows_at m.accounts w.block) w) (revokes_again x.known m.accounts ws))
      (again_revoked m (words ++ revokes_for x.known (rows_at m.accounts w.block) w) ws one next all.1)

-- ---- it hears

module _ (x : Scene) (good : IsScene x) (first : Spoken) (reading : ℕ) where
  -- a want
  hears_want : (m : Mastering) (words : List Word) (w : Want) (a : After x first m words) → Fits x.known.next_session → IsSaid a.now.said (Wants w) → After x first (hear_want x.known reading w m).0 (words ++ (hear_want x.known reading w m).1)
  hears_want m words w a next has = by_verdict (verdict_on x.known reading w m) refl
    where
      all_queued : AllByRecursion (λ (v : Want). IsSaid a.now.said (Wants v)) (queued w m.waiting)
      all_queued = elim (tested (has_newer w m.waiting)) [
        | passes is ↦ subst (λ (b : Bool). AllByRecursion (λ (v : Want). IsSaid a.now.said (Wants v)) (if b then m.waiting else without w m.waiting ++ w ∷ [])) (sym is) a.server.waits
        | misses is_not ↦ subst (λ (b : Bool). AllByRecursion (λ (v : Want). IsSaid a.now.said (Wants v)) (if b then m.waiting else without w m.waiting ++ w ∷ [])) (sym is_not)
            (all-push (λ (v : Want). IsSaid a.now.said (Wants v)) (without w m.waiting) w (all-filter (λ (v : Want). IsSaid a.now.said (Wants v)) (is_other w) m.waiting a.server.waits) has)
      ]

      by_verdict : (v : Verdict) → verdict_on x.known reading w m ≡ v → After x first (wanted v x.known w m).0 (words ++ (wanted v x.known w m).1)
      by_verdict Refuses is = no_more x first m words a
      by_verdict Waits is =
          all_revoked x good first (record m { waiting = queued w m.waiting }) words w (rows_at m.accounts w.block) (waits x good first m words (queued w m.waiting) a all_queued)
          (a.words_fit (Wants w) has) next (rows_found x.side.drawn 0 m.accounts w.block a.server.accounts)
      by_verdict (Grants row) is =
          let g = grants x good first m words reading w row a has is in
          waits x good first (listing w row m) (words ++ GrantsWord (grant_of w.block row) ∷ []) (without w m.waiting) g
          (all-filter (λ (v : Want). IsSaid g.now.said (Wants v)) (is_other w) m.waiting g.server.waits)

  -- the term's data are changed, and nothing is said
  turns : (m new : Mastering) (words : List Word) (a : After x first m words) (term : Term) → AreLocks x.chain x.holding x.floor a.now.said x.side term → AreLeases x.chain x.greatest x.handed a.now.promised a.now.noted x.ends term.expiring
      → Stands x first (record { said = a.now.said; term = term; promised = a.now.promised; noted = a.now.noted }) new → Server x a.now.said new → After x first new words
  turns m new words a term locks leases stands server = record {
    now = record { said = a.now.said; term = term; promised = a.now.promised; noted = a.now.noted };
    locks = locks;
    leases = leases;
    stands = stands;
    server = server;
    promises = a.promises;
    words_fit = a.words_fit;
    said_on = a.said_on;
    promised_on = a.promised_on;
    put_out = a.put_out;
  }

  carried : (m : Mastering) (words : List Word) (l : Release) (a : After x first m words) → IsSaid a.now.said (Releases l) → After x first (carrying l m) words
  carried m words l a has = elim a.stands [
    | tied is of_last ↦ let c = carries_on x.chain x.holding x.floor a.now.said x.side a.now.term a.now.noted m x.known l a.locks is in
        turns m (carrying l m) words a (term_carrying a.now.term m l) c.locks a.leases (tied c.tied of_last) server
    | late before same same_noted ↦ moves x good first m (carrying l m) words a (late before same same_noted) server
  ]
    where
      server : Server x a.now.said (carrying l m)
      server = record {
        server = a.server.server;
        boot_is = a.server.boot_is;
        term = a.server.term;
        seen = a.server.seen;
        index_fits = let f = (a.words_fit (Releases l) has).3 in let i = a.server.index_fits in omega (arith, f, i);
        accounts = a.server.accounts;
        noted = a.server.noted;
        waits = a.server.waits;
      }

  freed_after : (m : Mastering) (words : List Word) (l : Release) (row : Row) (a : After x first m words) → IsSaid a.now.said (Releases l) → Speaks x.known m l.session → row_for m.accounts l.session l.block ≡ Some row → row.stands ≡ true → row.number ≡ l.number
      → After x first (freed m l row) words
  freed_after m words l row a has may there stands number = elim a.stands [
    | tied is of_last ↦ let c = frees_on x.chain x.holding x.floor a.now.said x.side a.now.term a.now.noted m x.known l row a.locks is a.server.accounts has may there stands number in
        turns m (freed m l row) words a (term_freed a.now.term m l row) c.locks a.leases (tied c.tied of_last) server
    | late before same same_noted ↦ moves x good first m (freed m l row) words a (late before same same_noted) server
  ]
    where
      owned : IsOwnRow x.side.drawn l.session row
      owned = row_owned x.side.drawn 0 m.accounts l.session l.block row a.server.accounts there

      server : Server x a.now.said (freed m l row)
      server = record {
        server = a.server.server;
        boot_is = a.server.boot_is;
        term = a.server.term;
        seen = a.server.seen;
        index_fits = let f = (a.words_fit (Releases l) has).3 in let i = a.server.index_fits in omega (arith, f, i);
        accounts = listed_in_order x.side.drawn m.accounts l.session l.block (let_go row) a.server.accounts (record { session_is = owned.session_is; number = owned.number; number_fits = owned.number_fits; index_fits = owned.index_fits });
        noted = λ s. let e = (lists x.side.drawn 0 m.accounts l.session l.block (let_go row) a.server.accounts).ends s in let n = a.server.noted s in omega (arith, e, n);
        waits = a.server.waits;
      }

  -- a release
  hears_release : (m : Mastering) (words : List Word) (l : Release) (a : After x first m words) → IsSaid a.now.said (Releases l) → After x first (hear_release x.known reading l m).0 (words ++ (hear_release x.known reading l m).1)
  hears_release m words l a has = elim (tested (may_speak x.known l.session m)) [
    | passes may ↦ as_served x first words (hear_release x.known reading l m) (released x.known reading l (row_for m.accounts l.session l.block) (carrying l m))
        (ap (λ (b : Bool). if b then released x.known reading l (row_for m.accounts l.session l.block) (carrying l m) else (m, [])) may)
        (by_row may (row_for m.accounts l.session l.block) refl)
    | misses not_may ↦ as_served x first words (hear_release x.known reading l m) (m, [])
        (ap (λ (b : Bool). if b then released x.known reading l (row_for m.accounts l.session l.block) (carrying l m) else (m, [])) not_may)
        (no_more x first m words a)
  ]
    where
      kept_only : After x first (carrying l m) (words ++ [])
      kept_only = no_more x first (carrying l m) words (carried m words l a has)

      by_row : may_speak x.known l.session m ≡ true → (o : Option Row) → row_for m.accounts l.session l.block ≡ o → After x first (released x.known reading l o (carrying l m)).0 (words ++ (released x.known reading l o (carrying l m)).1)
      by_row may None none = kept_only
      by_row may (Some row) there = elim (tested (row.stands && (row.number == l.number))) [
        | passes is ↦
            let both = both_true row.stands (row.number == l.number) is in let n = both.1 in
            as_served x first words (released x.known reading l (Some row) (carrying l m)) (served x.known reading (Some l.block) (freed m l row))
            (ap (λ (b : Bool). if b then served x.known reading (Some l.block) (freed m l row) else (carrying l m, [])) is)
            (serves_all x good first reading (Some l.block) (freed m l row) words (freed_after m words l row a has (speaks x.known m l.session may) there both.0 (grind (arith, nat_tests, n))))
        | misses is_not ↦ as_served x first words (released x.known reading l (Some row) (carrying l m)) (carrying l m, [])
            (ap (λ (b : Bool). if b then served x.known reading (Some l.block) (freed m l row) else (carrying l m, [])) is_not) kept_only
      ]

  -- a renewal
  until_most : (now : Spoken) (s : ℕ) → AreLeases x.chain x.greatest x.handed now.promised now.noted x.ends now.term.expiring → LivesIn x.known s → until_in (session_row x.known.sessions s) ≤ x.known.term_end
  until_most now s leases alive = by_row (session_row x.known.sessions s) refl
    where
      by_row : (o : Option SessionRow) → session_row x.known.sessions s ≡ o → until_in o ≤ x.known.term_end
      by_row None none = omega arith
      by_row (Some row) there = let e = leases.rows x.known good.place s row there in let k = good.states.ends_most x.known s good.place alive in omega (arith, e, k)

  renewed : (m : Mastering) (words : List Word) (s : ℕ) (a : After x first m words) → Fits x.known.next_session → Speaks x.known m s
      → After x first (renewing s (new_end x.known reading s m) m) (words ++ Leases s (new_end x.known reading s m) ∷ [])
  renewed m words s a next may = elim a.stands [
    | tied is of_last ↦
        let r = renews_on x.chain x.holding x.floor a.now.said x.side a.now.term x.greatest x.handed a.now.promised a.now.noted x.ends m x.known s end a.locks a.leases is a.server.accounts good.place may most least in
        says x good first m (renewing s end m) words (Leases s end) a a.now.term ((s, end) ∷ a.now.promised) (one_of s end a.now.noted) little r.leases (tied r.tied of_last) server new_promise old_promise word_fits
    | late before same same_noted ↦
        says x good first m (renewing s end m) words (Leases s end) a a.now.term ((s, end) ∷ a.now.promised) a.now.noted little
        (promises_late x.chain x.greatest x.handed a.now.promised a.now.noted x.ends a.now.term.expiring x.known s end a.locks.chained a.leases good.place before (lives_has x.known s may.alive) most)
        (late before same same_noted) server new_promise old_promise word_fits
  ]
    where
      end : ℕ
      end = new_end x.known reading s m

      most : end ≤ x.known.term_end
      most = let n = a.server.noted s in let u = until_most a.now s a.leases may.alive in omega (arith, n, u)

      least : end_in m.accounts s ≤ end
      least = omega arith

      little : AreLocks x.chain x.holding x.floor (Leases s end ∷ a.now.said) x.side a.now.term
      little = says_little x.chain x.holding x.floor a.now.said x.side a.now.term (Leases s end) a.locks (leases_say_little (oldest x.chain) x.side.drawn s end)

      puts : NotesEnd s end m.accounts (renewing s end m).accounts
      puts = notes_end x.side.drawn 0 m.accounts s end a.server.accounts

      server : Server x a.now.said (renewing s end m)
      server = record {
        server = a.server.server;
        boot_is = a.server.boot_is;
        term = a.server.term;
        seen = a.server.seen;
        index_fits = a.server.index_fits;
        accounts = noted_in_order x.side.drawn m.accounts s end a.server.accounts;
        noted = λ t. ⊎_elim
            (λ is. let e = ap (end_in (renewing s end m).accounts) is.1 in let f = puts.at in let k = most in omega (arith, e, f, k))
            (λ other. let e = puts.others t other.1 in let n = a.server.noted t in omega (arith, e, n))
            (eqb_tells t s);
        waits = a.server.waits;
      }

      new_promise : (t e : ℕ) → Leases t e ≡ Leases s end → IsPromised ((s, end) ∷ a.now.promised) t e
      new_promise t e is = let one : t ≡ s = cc in let two : e ≡ end = cc in record { is = inl (one, two) }

      old_promise : (t e : ℕ) → IsPromised a.now.promised t e → IsPromised ((s, end) ∷ a.now.promised) t e
      old_promise t e has = still_promised a.now.promised (s, end) t e has

      word_fits : IsWord (Leases s end)
      word_fits = (session_fits x good first a.now.term a.now.said s a.locks (lives_has x.known s may.alive) next, let m = most in let f = good.end_fits in omega (arith, m, f))

  hears_renew : (m : Mastering) (words : List Word) (s : ℕ) → After x first m words → Fits x.known.next_session → After x first (hear_renew x.known reading s m).0 (words ++ (hear_renew x.known reading s m).1)
  hears_renew m words s a next = elim (tested (may_speak x.known s m)) [
    | passes may ↦ as_served x first words (hear_renew x.known reading s m) (renewing s (new_end x.known reading s m) m, Leases s (new_end x.known reading s m) ∷ [])
        (ap (λ (b : Bool). if b then (renewing s (new_end x.known reading s m) m, Leases s (new_end x.known reading s m) ∷ []) else (m, [])) may)
        (renewed m words s a next (speaks x.known m s may))
    | misses not_may ↦ as_served x first words (hear_renew x.known reading s m) (m, [])
        (ap (λ (b : Bool). if b then (renewing s (new_end x.known reading s m) m, Leases s (new_end x.known reading s m) ∷ []) else (m, [])) not_may)
        (no_more x first m words a)
  ]

  pub hears : (m : Mastering) (words : List Word) (word : Word) (a : After x first m words) → Fits x.known.next_session → IsSaid a.now.said word → After x first (hear x.known reading word m).0 (words ++ (hear x.known reading word m).1)
  hears m words (Wants w) a next has = hears_want m words w a next has
  hears m words (GrantsWord g) a next has = no_more x first m words a
  hears m words (Revokes v) a next has = no_more x first m words a
  hears m words (Releases l) a next has = hears_release m words l a has
  hears m words (Renews s) a next has = hears_renew m words s a next
  hears m words (Leases s u) a next has = no_more x first m words a

-- ---- it ticks

pub ticks : (x : Scene) (good : IsScene x) (first : Spoken) (m : Mastering) (words : List Word) → After x first m words → Fits x.known.next_session → is_master m x.known ≡ true → After x first (tick x.known m).0 (words ++ (tick x.known m).1)
unfolding rebased
ticks x good first m words a next master =
    as_served x first words (tick x.known m) (record m { waiting = left }, revokes_again x.known m.accounts left)
    (ap (λ (b : Bool). if b then (record m { waiting = left }, revokes_again x.known m.accounts left) else (m, [])) master)
    (then_after x first m (record m { waiting = left }) words (revokes_again x.known m.accounts left) a
    (again_revoked x good a.now (record m { waiting = left }) [] left (waits x good a.now m [] left (rebased x first m words a) all_left) next all_left))
  where
    left : List Want
    left = still_waiting x.known m.waiting

    all_left : AllByRecursion (λ (w : Want). IsSaid a.now.said (Wants w)) left
    all_left = all-filter (λ (w : Want). IsSaid a.now.said (Wants w)) (λ w. lives x.known w.session) m.waiting a.server.waits

-- ---- it learned first

pub catches_up : (x : Scene) (good : IsScene x) (first : Spoken) (reading : ℕ) (shows : Bool) (m : Mastering) (words : List Word) → After x first m words → After x first (served_if shows x.known reading m).0 (words ++ (served_if shows x.known reading m).1)
catches_up x good first reading shows m words a = elim (tested (shows && is_master m x.known)) [
  | passes is ↦ as_served x first words (served_if shows x.known reading m) (served x.known reading None m) (ap (λ (b : Bool). if b then served x.known reading None m else (m, [])) is) (serves_all x good first reading None m words a)
  | misses is_not ↦ as_served x first words (served_if shows x.known reading m) (m, []) (ap (λ (b : Bool). if b then served x.known reading None m else (m, [])) is_not) (no_more x first m words a)
]

-- What a lock server does in one event, once it has learned the state that it was handed: each step keeps what it says and keeps fitting.
use Rattle.std.proofs.Common.{◌≡◌, ◌≢◌, ⊎_elim, ◌⊎◌, ℕ, ◌<◌, ◌≤◌, Bool, true, false, List, [], ◌∷◌, ◌++◌, Some, None, sym, ◌∙◌, ap, subst, arith}
use Rattle.std.specs.Prelude.{if◌then◌else◌}
use Rattle.std.specs.List.{AllByRecursion}
use Rattle.bx_global.specs.declared.change.Change.{Change}
use Rattle.bx_global.specs.declared.state.GlobalState.{GlobalState}
use Rattle.bx_global.proofs.Kept.{all-push, all_is}
use Rattle.bx_rows.specs.Conditions.{Fits}
use Rattle.bx_rows.specs.Words.{row_in as session_row}
use Rattle.bx_facts.specs.Chains.{Chain, HasRow, IsPlace, LivesIn, last, oldest}
use Rattle.bx_facts.specs.Holds.{Holds}
use Rattle.bx_lock_words.specs.Words.{IsWord}
use Rattle.bx_lock_words.specs.declared.words.Want.{Want}
use Rattle.bx_lock_words.specs.declared.words.Word.{Word}
use Rattle.bx_lock_words.specs.declared.words.Word.TheVariants.{Wants, Leases, Grants as GrantsWord}
use Rattle.bx_locking.specs.Leases.{AreLeases, IsPromised}
use Rattle.bx_locking.specs.Tables
use Rattle.bx_locking.specs.Tables.{AreLocks, Side, Term}
use Rattle.bx_locking.specs.Terms.{HasTake}
use Rattle.bx_locking.specs.Words.{IsSaid}
use Rattle.bx_locking.proofs.Basics.{lives_has, now_said, number_given, same_or, said_or, still_said}
use Rattle.bx_locking.proofs.Late.{late_grant, says_little}
use Rattle.bx_locking.proofs.Masters.{grants_again}
use Rattle.bx_locking.proofs.Terms.{before_begins, lives_late}
use Rattle.bx_lock_tables.specs.Accounts.{end_in, row_for}
use Rattle.bx_lock_tables.specs.Rows.{is_again, listed_for, verdict_of}
use Rattle.bx_lock_tables.specs.declared.rows.Row.{Row}
use Rattle.bx_lock_tables.specs.declared.verdict.Verdict.TheVariants.{Grants}
use Rattle.bx_master.specs.Events.{grant_of}
use Rattle.bx_master.specs.Masters.{Mastering, listing}
use Rattle.bx_lock_steps.specs.Machines.{AreAccounts, AreStates, IsOwnRow, IsTied, entry_from, number_from}
use Rattle.bx_lock_steps.proofs.Accounts.{Lists, listed_in_order, lists, misses, passes, row_is, row_owned, tested}
use Rattle.bx_lock_steps.proofs.Granting.{grants_on, term_granted}
use Rattle.bx_lock_steps.proofs.Verdicts.{IsAgain, IsGranted, again_row, alive_lives, granted, listed_new, own_row, rows_of}

-- ---- the data

-- what stays while a server does one event
pub record Scene : Type 0 where
  pub chain : Chain
  pub holding : Holds
  pub floor : ℕ → ℕ
  pub greatest : ℕ
  pub handed : List Change
  pub side : Side
  pub ends : ℕ → ℕ
  pub known : GlobalState
  pub was : Mastering

pub record IsScene (x : Scene) : Type 0 where
  pub place : IsPlace x.chain x.known
  pub states : AreStates x.chain x.ends
  pub end_fits : Fits x.known.term_end
  pub began : x.known.term ≡ (last x.chain).term → (x.chain.found ≡ 0) ⊎ HasTake x.chain.changes

-- what it changes of the data that no object keeps
pub record Spoken : Type 0 where
  pub said : List Word
  pub term : Term
  pub promised : List (ℕ × ℕ)
  pub noted : ℕ → ℕ

-- It is the last term's master, and the term's data are its own; or it is that of an earlier term, and they are as they were.
pub data Stands (x : Scene) (first now : Spoken) (m : Mastering) : Type 0 where
  tied : IsTied x.chain now.term now.noted m x.known → x.known.term ≡ (last x.chain).term → Stands x first now m
  late : x.known.term < (last x.chain).term → now.term ≡ first.term → now.noted ≡ first.noted → Stands x first now m

-- what holds of the server itself
pub record Server (x : Scene) (said : List Word) (m : Mastering) : Type 0 where
  pub server : m.server ≡ x.was.server
  pub boot_is : m.boot ≡ x.was.boot
  pub term : m.term ≡ x.was.term
  pub seen : m.seen ≡ x.was.seen
  pub index_fits : Fits m.index
  pub accounts : AreAccounts x.side.drawn 0 m.accounts
  pub noted : (s : ℕ) → end_in m.accounts s ≤ x.known.term_end
  pub waits : AllByRecursion (λ (w : Want). IsSaid said (Wants w)) m.waiting

-- after some steps, in which it said these words
pub record After (x : Scene) (first : Spoken) (m : Mastering) (words : List Word) : Type 0 where
  pub now : Spoken
  pub locks : AreLocks x.chain x.holding x.floor now.said x.side now.term
  pub leases : AreLeases x.chain x.greatest x.handed now.promised now.noted x.ends now.term.expiring
  pub stands : Stands x first now m
  pub server : Server x now.said m
  pub promises : (s e : ℕ) → IsSaid now.said (Leases s e) → IsPromised now.promised s e
  pub words_fit : (word : Word) → IsSaid now.said word → IsWord word
  pub said_on : (word : Word) → IsSaid first.said word → IsSaid now.said word
  pub promised_on : (s e : ℕ) → IsPromised first.promised s e → IsPromised now.promised s e
  pub put_out : AllByRecursion (λ (word : Word). IsSaid now.said word) words

-- ---- the server

abbrev AllSaid : List Word → List Want → Type 0
AllSaid said waiting = AllByRecursion (λ (w : Want). IsSaid said (Wants w)) waiting

server_says : (x : Scene) (said : List Word) (word : Word) (m : Mastering) → Server x said m → Server x (word ∷ said) m
server_says x said word m is = record {
  server = is.server;
  boot_is = is.boot_is;
  term = is.term;
  seen = is.seen;
  index_fits = is.index_fits;
  accounts = is.accounts;
  noted = is.noted;
  waits = all_is (λ (w : Want). IsSaid said (Wants w)) (λ (w : Want). IsSaid (word ∷ said) (Wants w)) (λ w has. still_said said (Wants w) word has) m.waiting is.waits;
}

server_lists : (x : Scene) (said : List Word) (m : Mastering) (w : Want) (row : Row) → Server x said m → IsOwnRow x.side.drawn w.session row → Server x said (listing w row m)
server_lists x said m w row is owned = record {
  server = is.server;
  boot_is = is.boot_is;
  term = is.term;
  seen = is.seen;
  index_fits = is.index_fits;
  accounts = listed_in_order x.side.drawn m.accounts w.session w.block row is.accounts owned;
  noted = λ s. let e = (lists x.side.drawn 0 m.accounts w.session w.block row is.accounts).ends s in let n = is.noted s in omega (arith, e, n);
  waits = is.waits;
}

server_waits : (x : Scene) (said : List Word) (m : Mastering) (waiting : List Want) → Server x said m → AllSaid said waiting → Server x said (record m { waiting = waiting })
server_waits x said m waiting is all = record {
  server = is.server;
  boot_is = is.boot_is;
  term = is.term;
  seen = is.seen;
  index_fits = is.index_fits;
  accounts = is.accounts;
  noted = is.noted;
  waits = all;
}

-- ---- who waits is no part of the tie

tied_waits : (chain : Chain) (term : Term) (noted : ℕ → ℕ) (m : Mastering) (known : GlobalState) (waiting : List Want) → IsTied chain term noted m known → IsTied chain term noted (record m { waiting = waiting }) known
tied_waits chain term noted m known waiting is = record {
  view = is.view;
  index = is.index;
  table = is.table;
  listed = is.listed;
  expiring = is.expiring;
  noted_is = is.noted_is;
  unknown = λ s later. let u = is.unknown s later in record { account = u.account; listed = u.listed; expiring = u.expiring; noted_is = u.noted_is };
  earlier = is.earlier;
}

-- the same row listed again changes nothing
tied_again : (chain : Chain) (term : Term) (noted : ℕ → ℕ) (drawn : ℕ → ℕ) (m : Mastering) (known : GlobalState) (w : Want) (row : Row) → IsTied chain term noted m known → AreAccounts drawn 0 m.accounts
    → row_for m.accounts w.session w.block ≡ Some row → ((s : ℕ) → known.next_session ≤ s → s ≢ w.session) → IsTied chain term noted (listing w row m) known
tied_again chain term noted drawn m known w row is are there not_later = record {
  view = is.view;
  index = is.index;
  table = λ s b. is.table s b ∙ sym (ap entry_from (same s b));
  listed = λ s b has. is.listed s b has ∙ sym (ap number_from (same s b));
  expiring = λ s has. is.expiring s has ∙ sym (puts.marks s);
  noted_is = λ s has. is.noted_is s has ∙ sym (puts.ends s);
  unknown = λ s later. let u = is.unknown s later in record { account = puts.gone s (not_later s later) u.account; listed = u.listed; expiring = u.expiring; noted_is = u.noted_is };
  earlier = is.earlier;
}
  where
    puts : Lists w.session w.block row m.accounts (listing w row m).accounts
    puts = lists drawn 0 m.accounts w.session w.block row are

    same : (s b : ℕ) → row_for (listing w row m).accounts s b ≡ row_for m.accounts s b
    same s b = ⊎_elim
        (λ here. ap (λ (n : ℕ). row_for (listing w row m).accounts n b) here.0 ∙ ap (λ (n : ℕ). row_for (listing w row m).accounts w.session n) here.1 ∙ puts.here
        ∙ sym (ap (λ (n : ℕ). row_for m.accounts n b) here.0 ∙ ap (λ (n : ℕ). row_for m.accounts w.session n) here.1 ∙ there))
        (λ other. puts.others s b other)
        (same_or s w.session b w.block)

-- ---- steps

module _ (x : Scene) (good : IsScene x) (first : Spoken) where
  -- one word more is said
  pub says : (m new : Mastering) (words : List Word) (word : Word) (a : After x first m words) (term : Term) (promised : List (ℕ × ℕ)) (noted : ℕ → ℕ) → AreLocks x.chain x.holding x.floor (word ∷ a.now.said) x.side term
      → AreLeases x.chain x.greatest x.handed promised noted x.ends term.expiring → Stands x first (record { said = word ∷ a.now.said; term = term; promised = promised; noted = noted }) new → Server x a.now.said new
      → ((s e : ℕ) → Leases s e ≡ word → IsPromised promised s e) → ((s e : ℕ) → IsPromised a.now.promised s e → IsPromised promised s e) → IsWord word → After x first new (words ++ word ∷ [])
  says m new words word a term promised noted locks leases stands server promises more fit = record {
    now = record { said = word ∷ a.now.said; term = term; promised = promised; noted = noted };
    locks = locks;
    leases = leases;
    stands = stands;
    server = server_says x a.now.said word new server;
    promises = λ s e has. ⊎_elim (λ newest. promises s e newest) (λ old. more s e (a.promises s e old)) (said_or a.now.said (Leases s e) word has);
    words_fit = λ other has. ⊎_elim (λ newest. subst IsWord (sym newest) fit) (λ old. a.words_fit other old) (said_or a.now.said other word has);
    said_on = λ other has. still_said a.now.said other word (a.said_on other has);
    promised_on = λ s e has. more s e (a.promised_on s e has);
    put_out = all-push (λ (one : Word). IsSaid (word ∷ a.now.said) one) words word
        (all_is (λ (one : Word). IsSaid a.now.said one) (λ (one : Word). IsSaid (word ∷ a.now.said) one) (λ one has. still_said a.now.said one word has) words a.put_out) (now_said a.now.said word);
  }

  -- only the server is changed
  pub moves : (m new : Mastering) (words : List Word) (a : After x first m words) → Stands x first a.now new → Server x a.now.said new → After x first new words
  moves m new words a stands server = record {
    now = a.now;
    locks = a.locks;
    leases = a.leases;
    stands = stands;
    server = server;
    promises = a.promises;
    words_fit = a.words_fit;
    said_on = a.said_on;
    promised_on = a.promised_on;
    put_out = a.put_out;
  }

  -- a session that lives in what an earlier term's master knows is of an earlier term
  pub before_now : (term : Term) (said : List Word) (s : ℕ) → AreLocks x.chain x.holding x.floor said x.side term → x.known.term < (last x.chain).term → HasRow x.known s → s < oldest x.chain
  before_now term said s locks before has =
      let k = number_given x.chain locks.chained x.known good.place s has in
      let b = before_begins x.chain.found x.chain.first x.chain.changes x.known good.place before in omega (arith, k, b)

  pub session_fits : (term : Term) (said : List Word) (s : ℕ) → AreLocks x.chain x.holding x.floor said x.side term → HasRow x.known s → Fits x.known.next_session → Fits s
  session_fits term said s locks has next = let k = number_given x.chain locks.chained x.known good.place s has in omega (arith, k, next)

  -- ---- a want is granted

  new_granted : (m : Mastering) (words : List Word) (reading : ℕ) (w : Want) (row : Row) (a : After x first m words) → IsSaid a.now.said (Wants w) → verdict_of x.known m.last_dead m.index reading (rows_of m w) w ≡ Grants row
      → is_again (own_row m w) w ≡ false → After x first (listing w row m) (words ++ GrantsWord (grant_of w.block row) ∷ [])
  new_granted m words reading w row a has verdict new = elim a.stands [
    | tied is of_last ↦
        let of_term = lives_late x.chain.found x.chain.first x.chain.changes x.known w.session a.locks.chained.found (good.began of_last) good.place of_last alive in
        let g = grants_on x.chain x.holding x.floor a.now.said x.side a.now.term a.now.noted m x.known reading w row a.locks is a.server.accounts of_term has verdict new in
        says m (listing w row m) words (GrantsWord (grant_of w.block row)) a (term_granted a.now.term m w row) a.now.promised a.now.noted g.locks a.leases (tied g.tied of_last) server
        (λ s e wrong. absurd cc) (λ s e one. one) fit
    | late before same same_noted ↦
        says m (listing w row m) words (GrantsWord (grant_of w.block row)) a a.now.term a.now.promised a.now.noted
        (says_little x.chain x.holding x.floor a.now.said x.side a.now.term (GrantsWord (grant_of w.block row)) a.locks
        (late_grant (oldest x.chain) x.side.drawn (grant_of w.block row) (let b = before_now a.now.term a.now.said w.session a.locks before (lives_has x.known w.session alive) in omega (arith, b, session))))
        a.leases (late before same same_noted) server (λ s e wrong. absurd cc) (λ s e one. one) fit
  ]
    where
      is_granted : IsGranted x.known m.last_dead m.index reading (rows_of m w) w row
      is_granted = granted x.known m.last_dead m.index reading (rows_of m w) w row verdict

      alive : LivesIn x.known w.session
      alive = alive_lives (session_row x.known.sessions w.session) is_granted.alive

      row_new : row ≡ listed_for (own_row m w) m.index w
      row_new = sym is_granted.is ∙ listed_new (own_row m w) m.index w new

      session : row.session ≡ w.session
      session = ap (λ (r : Row). r.session) row_new

      number : row.number ≡ w.number
      number = ap (λ (r : Row). r.number) row_new

      index : row.index ≡ m.index
      index = ap (λ (r : Row). r.index) row_new

      want_fits : IsWord (Wants w)
      want_fits = a.words_fit (Wants w) has

      fit : IsWord (GrantsWord (grant_of w.block row))
      fit = (subst Fits (sym session) want_fits.0, want_fits.1, subst Fits (sym number) want_fits.2, subst Fits (sym index) a.server.index_fits)

      server : Server x a.now.said (listing w row m)
      server = server_lists x a.now.said m w row a.server (record {
        session_is = session;
        number = let d = a.locks.sides.want_drawn w has in omega (arith, d, number);
        number_fits = subst Fits (sym number) want_fits.2;
        index_fits = subst Fits (sym index) a.server.index_fits;
      })

  granted_again : (m : Mastering) (words : List Word) (reading : ℕ) (w : Want) (row : Row) (a : After x first m words) → IsSaid a.now.said (Wants w) → verdict_of x.known m.last_dead m.index reading (rows_of m w) w ≡ Grants row
      → is_again (own_row m w) w ≡ true → After x first (listing w row m) (words ++ GrantsWord (grant_of w.block row) ∷ [])
  granted_again m words reading w row a has verdict again = elim a.stands [
    | tied is of_last ↦
        says m (listing w row m) words (GrantsWord (grant_of w.block row)) a a.now.term a.now.promised a.now.noted
        (grants_again x.chain x.holding x.floor a.now.said x.side a.now.term (grant_of w.block row) a.locks
        (ap (λ (s : ℕ). a.now.term.table s w.block) owned.session_is ∙ is.table w.session w.block ∙ ap entry_from there
        ∙ ap (λ (b : Bool). if b then Some (Tables.entry_of (grant_of w.block row)) else None) old.stands))
        a.leases (tied (tied_again x.chain a.now.term a.now.noted x.side.drawn m x.known w row is a.server.accounts there not_later) of_last) server (λ s e wrong. absurd cc) (λ s e one. one) fit
    | late before same same_noted ↦
        says m (listing w row m) words (GrantsWord (grant_of w.block row)) a a.now.term a.now.promised a.now.noted
        (says_little x.chain x.holding x.floor a.now.said x.side a.now.term (GrantsWord (grant_of w.block row)) a.locks
        (late_grant (oldest x.chain) x.side.drawn (grant_of w.block row) (let b = before_now a.now.term a.now.said w.session a.locks before (lives_has x.known w.session alive) in let s = owned.session_is in omega (arith, b, s))))
        a.leases (late before same same_noted) server (λ s e wrong. absurd cc) (λ s e one. one) fit
  ]
    where
      is_granted : IsGranted x.known m.last_dead m.index reading (rows_of m w) w row
      is_granted = granted x.known m.last_dead m.index reading (rows_of m w) w row verdict

      alive : LivesIn x.known w.session
      alive = alive_lives (session_row x.known.sessions w.session) is_granted.alive

      old : IsAgain (own_row m w) w row
      old = again_row (own_row m w) m.index w row again is_granted.is

      there : row_for m.accounts w.session w.block ≡ Some row
      there = sym (row_is x.side.drawn 0 m.accounts w.session w.block a.server.accounts) ∙ old.is

      owned : IsOwnRow x.side.drawn w.session row
      owned = row_owned x.side.drawn 0 m.accounts w.session w.block row a.server.accounts there

      want_fits : IsWord (Wants w)
      want_fits = a.words_fit (Wants w) has

      fit : IsWord (GrantsWord (grant_of w.block row))
      fit = (subst Fits (sym owned.session_is) want_fits.0, want_fits.1, owned.number_fits, owned.index_fits)

      server : Server x a.now.said (listing w row m)
      server = server_lists x a.now.said m w row a.server owned

      not_later : (s : ℕ) → x.known.next_session ≤ s → s ≢ w.session
      not_later s later same = let k = number_given x.chain a.locks.chained x.known good.place w.session (lives_has x.known w.session alive) in omega (arith, later, same, k)

  pub grants : (m : Mastering) (words : List Word) (reading : ℕ) (w : Want) (row : Row) (a : After x first m words) → IsSaid a.now.said (Wants w) → verdict_of x.known m.last_dead m.index reading (rows_of m w) w ≡ Grants row
      → After x first (listing w row m) (words ++ GrantsWord (grant_of w.block row) ∷ [])
  grants m words reading w row a has verdict = elim (tested (is_again (own_row m w) w)) [
    | passes again ↦ granted_again m words reading w row a has verdict again
    | misses new ↦ new_granted m words reading w row a has verdict new
  ]

  -- who waits is changed
  stands_waits : (now : Spoken) (m : Mastering) (waiting : List Want) → Stands x first now m → Stands x first now (record m { waiting = waiting })
  stands_waits now m waiting (tied is of_last) = tied (tied_waits x.chain now.term now.noted m x.known waiting is) of_last
  stands_waits now m waiting (late before same same_noted) = late before same same_noted

  pub waits : (m : Mastering) (words : List Word) (waiting : List Want) (a : After x first m words) → AllByRecursion (λ (w : Want). IsSaid a.now.said (Wants w)) waiting → After x first (record m { waiting = waiting }) words
  waits m words waiting a all = moves m (record m { waiting = waiting }) words a (stands_waits a.now m waiting a.stands) (server_waits x a.now.said m waiting a.server all)

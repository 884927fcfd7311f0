-- A lock server learns a state: what it keeps fits again.
use Rattle.std.proofs.Common.{◌≡◌, ◌≢◌, inl, inr, ⊎_elim, ◌⊎◌, ℕ, ◌≤◌, Bool, true, false, List, Option, Some, None, max, refl, sym, ◌∙◌, ap, subst, arith}
use Rattle.std.specs.Prelude.{if◌then◌else◌}
use Rattle.std.specs.List.{AllByRecursion}
use Rattle.std.proofs.lemmas.Bool.Decides.{eqb_tells, nat_tests}
use Rattle.bx_global.specs.declared.state.GlobalState.{GlobalState}
use Rattle.bx_rows.specs.Conditions.{Fits}
use Rattle.bx_facts.specs.Chains.{Chain, HasOwnBoot, IsPlace, last}
use Rattle.bx_facts.specs.Holds.{Holds}
use Rattle.bx_lock_words.specs.declared.words.Want.{Want}
use Rattle.bx_lock_words.specs.declared.words.Word.{Word}
use Rattle.bx_lock_words.specs.declared.words.Word.TheVariants.{Wants}
use Rattle.bx_locking.specs.Tables.{AreLocks, Side, Term}
use Rattle.bx_locking.specs.Words.{IsSaid}
use Rattle.bx_locking.proofs.Basics.{row_or}
use Rattle.bx_locking.proofs.Terms.{term_most}
use Rattle.bx_lock_tables.specs.Accounts.{end_of}
use Rattle.bx_master.specs.Masters.{Mastering, entered, is_term, learned, noting, shows_close, went_on}
use Rattle.bx_lock_steps.specs.Machines.{AreAccounts, FitsMaster, HasSeen, IsMaster, IsTied, IsUntied}
use Rattle.bx_lock_steps.proofs.Accounts.{account_gone, account_kept, kept_in_order, misses, passes, tested}
use Rattle.bx_lock_steps.proofs.Chains.{term_began, term_ends, terms_rise}
use Rattle.bx_lock_steps.proofs.Learning.{learns_first, learns_on, row_has, row_lacks, term_learned}

-- ---- what it keeps then

-- the last term's data, and what the server keeps, once it has learned a state
pub record Learned (chain : Chain) (holding : Holds) (floor : ℕ → ℕ) (said : List Word) (side : Side) (term : Term) (noted : ℕ → ℕ) (id boot : ℕ) (known : GlobalState) (new : Mastering) : Type 0 where
  pub now : Term
  pub locks : AreLocks chain holding floor said side now
  pub expiring : now.expiring ≡ term.expiring
  pub server : new.server ≡ id
  pub boot_is : new.boot ≡ boot
  pub seen : HasSeen chain known.index new known
  pub index_fits : Fits new.index
  pub accounts : AreAccounts side.drawn 0 new.accounts
  pub waits : AllByRecursion (λ (w : Want). IsSaid said (Wants w)) new.waiting
  pub tied : IsMaster (last chain) id boot → known.term ≡ (last chain).term → IsTied chain now noted new known
  pub untied : IsMaster (last chain) id boot → known.term ≢ (last chain).term → IsUntied chain now noted
  pub own : (now ≡ term) ⊎ IsMaster (last chain) id boot

-- what holds whether the term is new to it or not
pub record Stays (chain : Chain) (side : Side) (said : List Word) (id boot : ℕ) (known : GlobalState) (new : Mastering) : Type 0 where
  pub server : new.server ≡ id
  pub boot_is : new.boot ≡ boot
  pub seen : HasSeen chain known.index new known
  pub index_fits : Fits new.index
  pub accounts : AreAccounts side.drawn 0 new.accounts
  pub waits : AllByRecursion (λ (w : Want). IsSaid said (Wants w)) new.waiting

index_noted : (m : Mastering) (known : GlobalState) → Fits m.index → Fits known.index → Fits (noting known m).index
index_noted m known one two = by_test (shows_close m.seen known) refl
  where
    by_test : (b : Bool) → shows_close m.seen known ≡ b → Fits (noting known m).index
    by_test true so = subst Fits (sym (ap (λ (b : Bool). if b then max m.index known.index else m.index) so)) (omega (arith, one, two))
    by_test false not_so = subst Fits (sym (ap (λ (b : Bool). if b then max m.index known.index else m.index) not_so)) one

went_stays : (chain : Chain) (side : Side) (said : List Word) (knew id boot : ℕ) (term : Term) (noted : ℕ → ℕ) (m : Mastering) (p known : GlobalState) → FitsMaster chain knew boot said side.drawn term noted id m → HasSeen chain knew m p
    → IsPlace chain known → Fits known.index → knew ≤ known.index → p.term ≡ known.term → Stays chain side said id boot known (went_on known (noting known m))
went_stays chain side said knew id boot term noted m p known fits seen place index_fits rises same = record {
  server = fits.server;
  boot_is = fits.boot_is;
  seen = record {
    place = place;
    index = omega arith;
    term = seen.term ∙ ap (λ (t : ℕ). Some t) same;
    seen = refl;
    noted = λ s. ⊎_elim
        (λ has. let e = ap end_of (account_kept side.drawn known 0 m.accounts s fits.accounts (row_has known s has)) in let n = seen.noted s in
        let t = term_ends chain p known seen.place place (let i = seen.index in omega (arith, i, rises)) same in omega (arith, e, n, t))
        (λ none. let e = ap end_of (account_gone side.drawn known 0 m.accounts s fits.accounts (row_lacks known s none)) in omega (arith, e))
        (row_or known s);
  };
  index_fits = index_noted m known fits.index_fits index_fits;
  accounts = kept_in_order side.drawn known 0 m.accounts fits.accounts;
  waits = fits.waits;
}

entered_stays : (chain : Chain) (side : Side) (said : List Word) (knew id boot : ℕ) (term : Term) (noted : ℕ → ℕ) (m : Mastering) (known : GlobalState) → FitsMaster chain knew boot said side.drawn term noted id m
    → IsPlace chain known → Fits known.index → Stays chain side said id boot known (entered known (noting known m))
entered_stays chain side said knew id boot term noted m known fits place index_fits = record {
  server = fits.server;
  boot_is = fits.boot_is;
  seen = record { place = place; index = omega arith; term = refl; seen = refl; noted = λ s. omega arith };
  index_fits = index_noted m known fits.index_fits index_fits;
  accounts = tt;
  waits = tt;
}

-- ---- whether it knew of the term

is_term_so : (o : Option ℕ) (t : ℕ) → is_term o t ≡ true → o ≡ Some t
is_term_so None t is = absurd cc
is_term_so (Some old) t is = ap (λ (n : ℕ). Some n) (let e : old ≡ t = grind (arith, nat_tests, is) in e)

is_term_not : (o : Option ℕ) (t : ℕ) → is_term o t ≡ false → o ≢ Some t
is_term_not None t is same = cc
is_term_not (Some old) t is same = let e : old ≡ t = cc in let f : is_term (Some t) t ≡ true = grind (arith, nat_tests) in let g : true ≡ false = sym f ∙ ap (λ (n : ℕ). is_term (Some n) t) (sym e) ∙ is in cc

one_term : (o : Option ℕ) (t u : ℕ) → o ≡ Some t → o ≡ Some u → t ≡ u
one_term o t u is also = let e : Some t ≡ Some u = sym is ∙ also in cc

-- whether a server of this number and boot is the last state's master
master_or : (s : GlobalState) (id boot : ℕ) → IsMaster s id boot ⊎ (IsMaster s id boot → ⊥)
master_or s id boot = ⊎_elim
    (λ one. ⊎_elim
    (λ two. inl (record { server = one.1; boot_is = two.1 }))
    (λ other. inr (λ is. other.1 is.boot_is))
    (eqb_tells s.master_boot boot))
    (λ other. inr (λ is. other.1 is.server))
    (eqb_tells s.master id)

-- ---- it learns

module _ (chain : Chain) (holding : Holds) (floor : ℕ → ℕ) (said : List Word) (side : Side) (term : Term) (noted : ℕ → ℕ) (knew id boot : ℕ) (m : Mastering) (known : GlobalState) (locks : AreLocks chain holding floor said side term)
    (fits : FitsMaster chain knew boot said side.drawn term noted id m) (place : IsPlace chain known) (index_fits : Fits known.index) (rises : knew ≤ known.index) (own : HasOwnBoot chain boot) where
  -- what it learns, as one of both
  learned_as : (new : Mastering) → learned known m ≡ new → Learned chain holding floor said side term noted id boot known new → Learned chain holding floor said side term noted id boot known (learned known m)
  learned_as new is l = subst (λ (x : Mastering). Learned chain holding floor said side term noted id boot known x) (sym is) l

  -- it knew of the term
  went : is_term m.term known.term ≡ true → Learned chain holding floor said side term noted id boot known (went_on known (noting known m))
  went is =
      let k = fits.knows known.term (is_term_so m.term known.term is) in
      let same : k.state.term ≡ known.term = one_term m.term k.state.term known.term k.seen.term (is_term_so m.term known.term is) in
      let s = went_stays chain side said knew id boot term noted m k.state known fits k.seen place index_fits rises same in
      ⊎_elim
      (λ master. ⊎_elim
      (λ now. let l = learns_on chain holding floor said side term noted m knew k.state known locks fits.accounts k.seen (same ∙ now.1) (k.tied master (same ∙ now.1)) place now.1 rises in record {
        now = term_learned term (went_on known (noting known m)) known;
        locks = l.locks;
        expiring = refl;
        server = s.server;
        boot_is = s.boot_is;
        seen = s.seen;
        index_fits = s.index_fits;
        accounts = s.accounts;
        waits = s.waits;
        tied = λ is_master of_last. l.tied;
        untied = λ is_master older. absurd (older now.1);
        own = inr master;
      })
      (λ older. record {
        now = term;
        locks = locks;
        expiring = refl;
        server = s.server;
        boot_is = s.boot_is;
        seen = s.seen;
        index_fits = s.index_fits;
        accounts = s.accounts;
        waits = s.waits;
        tied = λ is_master of_last. absurd (older.1 of_last);
        untied = λ is_master not_last. fits.untied is_master (λ has. not_last (one_term m.term known.term (last chain).term (is_term_so m.term known.term is) has));
        own = inl refl;
      })
      (eqb_tells known.term (last chain).term))
      (λ not_master. record {
        now = term;
        locks = locks;
        expiring = refl;
        server = s.server;
        boot_is = s.boot_is;
        seen = s.seen;
        index_fits = s.index_fits;
        accounts = s.accounts;
        waits = s.waits;
        tied = λ is_master of_last. absurd (not_master is_master);
        untied = λ is_master not_last. absurd (not_master is_master);
        own = inl refl;
      })
      (master_or (last chain) id boot)

  -- what it has counted, where it didn't know of the term
  counted : is_term m.term known.term ≡ false → known.term ≡ (last chain).term → (m.seen ≡ None) ⊎ ((p : GlobalState) × (HasSeen chain knew m p) × (p.term ≢ (last chain).term))
  counted is_not now = by_term m.term refl
    where
      by_term : (o : Option ℕ) → m.term ≡ o → (m.seen ≡ None) ⊎ ((p : GlobalState) × (HasSeen chain knew m p) × (p.term ≢ (last chain).term))
      by_term None none = inl (fits.nothing none)
      by_term (Some t) some = let k = fits.knows t some in inr (k.state, k.seen, λ same. is_term_not m.term known.term is_not (k.seen.term ∙ ap (λ (n : ℕ). Some n) (same ∙ sym now)))

  -- a server that knew of the last term knows no older one now
  still_last : (known.term ≢ (last chain).term) → m.term ≡ Some (last chain).term → ⊥
  still_last older has =
      let k = fits.knows (last chain).term has in
      let same : k.state.term ≡ (last chain).term = one_term m.term k.state.term (last chain).term k.seen.term has in
      let r = terms_rise chain k.state known k.seen.place place (let i = k.seen.index in omega (arith, i, rises)) in
      let l = term_most chain.first chain.changes known place in
      older (omega (arith, same, r, l))

  enters : is_term m.term known.term ≡ false → Learned chain holding floor said side term noted id boot known (entered known (noting known m))
  enters is_not =
      let s = entered_stays chain side said knew id boot term noted m known fits place index_fits in
      ⊎_elim
      (λ master. ⊎_elim
      (λ now. let l = learns_first chain holding floor said side term noted m knew known locks
      (fits.untied master (λ has. is_term_not m.term known.term is_not (has ∙ ap (λ (n : ℕ). Some n) (sym now.1)))) place now.1 (counted is_not now.1) (term_began chain id boot master own) in record {
        now = term_learned term (entered known (noting known m)) known;
        locks = l.locks;
        expiring = refl;
        server = s.server;
        boot_is = s.boot_is;
        seen = s.seen;
        index_fits = s.index_fits;
        accounts = s.accounts;
        waits = s.waits;
        tied = λ is_master of_last. l.tied;
        untied = λ is_master older. absurd (older now.1);
        own = inr master;
      })
      (λ older. record {
        now = term;
        locks = locks;
        expiring = refl;
        server = s.server;
        boot_is = s.boot_is;
        seen = s.seen;
        index_fits = s.index_fits;
        accounts = s.accounts;
        waits = s.waits;
        tied = λ is_master of_last. absurd (older.1 of_last);
        untied = λ is_master not_last. fits.untied is_master (λ has. still_last not_last has);
        own = inl refl;
      })
      (eqb_tells known.term (last chain).term))
      (λ not_master. record {
        now = term;
        locks = locks;
        expiring = refl;
        server = s.server;
        boot_is = s.boot_is;
        seen = s.seen;
        index_fits = s.index_fits;
        accounts = s.accounts;
        waits = s.waits;
        tied = λ is_master of_last. absurd (not_master is_master);
        untied = λ is_master not_last. absurd (not_master is_master);
        own = inl refl;
      })
      (master_or (last chain) id boot)

  pub learns : Learned chain holding floor said side term noted id boot known (learned known m)
  learns = elim (tested (is_term m.term known.term)) [
    | passes is ↦ learned_as (went_on known (noting known m)) (ap (λ (b : Bool). if b then went_on known (noting known m) else entered known (noting known m)) is) (went is)
    | misses is_not ↦ learned_as (entered known (noting known m)) (ap (λ (b : Bool). if b then went_on known (noting known m) else entered known (noting known m)) is_not) (enters is_not)
  ]

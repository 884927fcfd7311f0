-- A clerk learns a state, and so its session: all fits again.
use Rattle.std.proofs.Common.{◌≡◌, ◌≢◌, inl, inr, ⊎_elim, ◌⊎◌, ℕ, ◌<◌, ◌≤◌, Bool, true, false, List, [], max, Option, Some, None, refl, sym, ◌∙◌, ap, subst, arith}
use Rattle.std.specs.Prelude.{◌==◌, if◌then◌else◌}
use Rattle.std.proofs.lemmas.Bool.Decides.{eqb_tells, leb_tells, nat_tests}
use Rattle.bx_base.specs.declared.names.Actor.{Actor}
use Rattle.bx_base.specs.declared.names.Actor.TheVariants.{Node}
use Rattle.bx_global.specs.declared.change.Change.{Change}
use Rattle.bx_global.specs.declared.state.GlobalState.{GlobalState}
use Rattle.bx_rows.specs.Conditions.{Fits}
use Rattle.bx_rows.specs.Words.{row_in}
use Rattle.bx_facts.specs.Chains.{Chain, HasOwnBoot, IsPlace, last, session_of}
use Rattle.bx_facts.specs.Holds.{OwnersPast}
use Rattle.bx_facts.specs.Machines.{is_same as is_machine, put_at}
use Rattle.bx_facts.proofs.Machines.{elsewhere, here, is_one}
use Rattle.bx_locking.specs.Leases.{AreLeases, IsPromised}
use Rattle.bx_locking.specs.Owned.{IsNewBoot}
use Rattle.bx_locking.specs.Tables.{Side}
use Rattle.bx_locking.proofs.Basics.{go, place_most}
use Rattle.bx_locking.proofs.Owned.{session_row, was_own}
use Rattle.bx_master.specs.Masters.{Mastering}
use Rattle.bx_clerk.specs.Clerks.{Clerking, is_same, learned, until_in, until_of, with_session}
use Rattle.bx_clerk.specs.declared.requests.Asking.{Asking}
use Rattle.bx_lock_machines.specs.Keeps.{AreBooted, Keeps, PutsOne, WasHad}
use Rattle.bx_lock_steps.specs.Machines.{FitsClerk}
use Rattle.bx_lock_steps.proofs.Accounts.{misses, passes, tested}
use Rattle.bx_lock_steps.proofs.Chains.{first_among, new_boot, one_session, own_given, own_row, row_lives}
use Rattle.bx_lock_steps.proofs.Functions.{one_at, one_not, one_of}

-- ---- one session is another

same_so : (a b : Option ℕ) → is_same a b ≡ true → a ≡ b
same_so None None is = refl
same_so None (Some n) is = absurd cc
same_so (Some m) None is = absurd cc
same_so (Some m) (Some n) is = ap (λ (k : ℕ). Some k) (let e : m ≡ n = grind (arith, nat_tests, is) in e)

same_not : (a b : Option ℕ) → is_same a b ≡ false → a ≢ b
same_not None None is same = absurd cc
same_not None (Some n) is same = absurd cc
same_not (Some m) None is same = absurd cc
same_not (Some m) (Some n) is same =
    let e : m ≡ n = cc in let f : (n == n) ≡ true = grind (arith, nat_tests) in
    let g : true ≡ false = sym f ∙ ap (λ (k : ℕ). k == n) (sym e) ∙ is in absurd cc

-- ---- which sessions were had then

abbrev pub had_with : Option ℕ → (ℕ → Bool) → ℕ → Bool
had_with None had = had
had_with (Some t) had = one_of t true had

had_on : (o : Option ℕ) (had : ℕ → Bool) (s : ℕ) → had s ≡ true → had_with o had s ≡ true
had_on None had s is = is
had_on (Some t) had s is = ⊎_elim (λ same. ap (one_of t true had) same.1 ∙ one_at t true had) (λ other. one_not t true had s other.1 ∙ is) (eqb_tells s t)

had_now : (o : Option ℕ) (had : ℕ → Bool) (s : ℕ) → had_with o had s ≡ true → (o ≡ Some s) ⊎ ((had s ≡ true) × (o ≢ Some s))
had_now None had s is = inr (is, λ wrong. cc)
had_now (Some t) had s is = ⊎_elim
    (λ same. inl (ap (λ (k : ℕ). Some k) (sym same.1)))
    (λ other. inr (sym (one_not t true had s other.1) ∙ is, λ wrong. let e : t ≡ s = cc in other.1 (sym e)))
    (eqb_tells s t)

had_none : (o : Option ℕ) (had : ℕ → Bool) (s : ℕ) → had_with o had s ≡ false → had s ≡ false
had_none o had s none = by_test (had s) refl
  where
    by_test : (b : Bool) → had s ≡ b → had s ≡ false
    by_test true is = let e : true ≡ false = sym (had_on o had s is) ∙ none in absurd cc
    by_test false is = is

-- another clerk, where more sessions were had
clerk_had : (chain : Chain) (knew boot : ℕ) (side : Side) (had more : ℕ → Bool) (promised : List (ℕ × ℕ)) (n : ℕ) (c : Clerking) → ((s : ℕ) → had s ≡ true → more s ≡ true) → FitsClerk chain knew boot side had promised n c → FitsClerk chain knew boot side more promised n c
clerk_had chain knew boot side had more promised n c on is = record {
  unique = is.unique;
  none = is.none;
  session = is.session;
  this_life = is.this_life;
  had_is = λ s own. on s (is.had_is s own);
  requests = is.requests;
  drawn = is.drawn;
  given = is.given;
  lease = is.lease;
  blocks = is.blocks;
  drawn_fits = is.drawn_fits;
  given_fits = is.given_fits;
  knows_fits = is.knows_fits;
}

-- what a node is handed
pub record IsHanded (past : OwnersPast) (n : ℕ) (known : GlobalState) : Type 0 where
  pub up : past.told.down (Node n) ≡ false
  pub place : IsPlace past.told.chain known
  pub rises : past.told.knew (Node n) ≤ known.index
  pub own_boot : HasOwnBoot past.told.chain (past.told.boots (Node n))

module _ (nodes : ℕ) (masters : ℕ → Mastering) (clerks more : ℕ → Clerking) (p : OwnersPast) (n : ℕ) (known : GlobalState) (keeps : Keeps nodes masters clerks p) (inside : n < nodes) (handed : IsHanded p n known) where
  -- the session that it finds
  own_is : session_of known (clerks n).node (clerks n).boot ≡ session_of known n (p.told.boots (Node n))
  own_is = ap (λ (k : ℕ). session_of known k (clerks n).boot) (keeps.fits.node n inside) ∙ ap (session_of known n) (keeps.fits.boot n inside handed.up)

  index_fits : Fits known.index
  index_fits = let l = place_most p.told.chain known handed.place in let k = keeps.fits.states.index_fits in omega (arith, l, k)

  is_new : IsNewBoot p.told.chain.found (p.told.boots (Node n)) known
  is_new = new_boot p.told.chain (p.told.boots (Node n)) known keeps.fits.locks.chained.found (keeps.fits.states.rising p.told.chain.first (first_among p.told.chain.first p.told.chain.changes)) handed.own_boot handed.place

  -- its end was promised
  promised_end : (s : ℕ) → session_of known n (p.told.boots (Node n)) ≡ Some s → IsPromised keeps.ghosts.promised s (until_of known (Some s))
  promised_end s is =
      let r = own_row known n (p.told.boots (Node n)) s (keeps.fits.states.rising known handed.place) is in
      let e : until_in (row_in known.sessions s) ≡ keeps.ghosts.ends s = ap until_in r.there ∙ keeps.fits.leases_are.rows known handed.place s r.row r.there in
      subst (λ (end : ℕ). IsPromised keeps.ghosts.promised s end) (sym e) (keeps.fits.leases_are.ended known handed.place s (row_lives known s r))

  -- a session that it hasn't had until now was had by none
  never_had : (s : ℕ) → session_of known n (p.told.boots (Node n)) ≡ Some s → (clerks n).session ≢ Some s → keeps.ghosts.had s ≡ false
  never_had s is differs = by_test (keeps.ghosts.had s) refl
    where
      by_test : (b : Bool) → keeps.ghosts.had s ≡ b → keeps.ghosts.had s ≡ false
      by_test true had = absurd (⊎_elim (λ has. differs has) (λ never. never known handed.place handed.rises is) (keeps.fits.had_are.once s n had))
      by_test false none = none

  -- the session of the clerk stays
  stays_fits : (clerks n).session ≡ session_of known n (p.told.boots (Node n)) → FitsClerk p.told.chain known.index (p.told.boots (Node n)) keeps.ghosts.side (had_with (session_of known n (p.told.boots (Node n))) keeps.ghosts.had) keeps.ghosts.promised n
      (record (record (clerks n) { lease = max (clerks n).lease (until_of known (session_of known n (p.told.boots (Node n)))) }) { knows = known.index; server = known.master })
  stays_fits same = record {
    unique = c.unique;
    none = c.none;
    session = λ s has. let k = c.session s has in record { state = k.state; place = k.place; index = (let i = k.index in let r = handed.rises in omega (arith, i, r)); own = k.own };
    this_life = c.this_life;
    had_is = λ s has. had_on (session_of known n (p.told.boots (Node n))) keeps.ghosts.had s (c.had_is s has);
    requests = c.requests;
    drawn = c.drawn;
    given = c.given;
    lease = λ s has.
        let here : session_of known n (p.told.boots (Node n)) ≡ Some s = sym same ∙ has in
        subst (λ (o : Option ℕ). IsPromised keeps.ghosts.promised s (max (clerks n).lease (until_of known o))) (sym here)
        (greater s (clerks n).lease (until_of known (Some s)) (c.lease s has) (promised_end s here));
    blocks = c.blocks;
    drawn_fits = c.drawn_fits;
    given_fits = c.given_fits;
    knows_fits = index_fits;
  }
    where
      c : FitsClerk p.told.chain (p.told.knew (Node n)) (p.told.boots (Node n)) keeps.ghosts.side keeps.ghosts.had keeps.ghosts.promised n (clerks n)
      c = keeps.fits.clerk n

      greater : (s a b : ℕ) → IsPromised keeps.ghosts.promised s a → IsPromised keeps.ghosts.promised s b → IsPromised keeps.ghosts.promised s (max a b)
      greater s a b one two = ⊎_elim
          (λ most. let m = most.1 in subst (λ (e : ℕ). IsPromised keeps.ghosts.promised s e) (let e : b ≡ max a b = omega (arith, m) in e) two)
          (λ few. let l = few.1 in subst (λ (e : ℕ). IsPromised keeps.ghosts.promised s e) (let e : a ≡ max a b = omega (arith, l) in e) one)
          (leb_tells a b)

  -- it has another one, or none
  other_fits : (o : Option ℕ) → session_of known n (p.told.boots (Node n)) ≡ o → (clerks n).session ≢ o → FitsClerk p.told.chain known.index (p.told.boots (Node n)) keeps.ghosts.side (had_with o keeps.ghosts.had) keeps.ghosts.promised n
      (record (record (clerks n) { session = o; lease = until_of known o; requests = []; asks = [] }) { knows = known.index; server = known.master })
  other_fits o is differs = record {
    unique = tt;
    none = λ none b. refl;
    session = λ s has. record { state = known; place = handed.place; index = omega arith; own = is ∙ has };
    this_life = λ s has. let i = session_row known n (p.told.boots (Node n)) s (is ∙ has) in let l = is_new.each i.row i.is i.live.boot_is in let e = i.number in omega (arith, l, e);
    had_is = λ s has. subst (λ (x : Option ℕ). had_with x keeps.ghosts.had s ≡ true) (sym has) (one_at s true keeps.ghosts.had);
    requests = λ s has b. (fresh s has).0 b;
    drawn = λ s has. let e = (fresh s has).1 in omega (arith, e);
    given = λ s has. let e = (fresh s has).2 in omega (arith, e);
    lease = λ s has. subst (λ (x : Option ℕ). IsPromised keeps.ghosts.promised s (until_of known x)) (sym has) (promised_end s (is ∙ has));
    blocks = λ b r there. absurd (none_some r there);
    drawn_fits = (keeps.fits.clerk n).drawn_fits;
    given_fits = (keeps.fits.clerk n).given_fits;
    knows_fits = index_fits;
  }
    where
      none_some : (r : Asking) → None ≡ Some r → ⊥
      none_some r wrong = cc

      fresh : (s : ℕ) → o ≡ Some s → ((b : ℕ) → keeps.ghosts.side.requests s b ≡ None) × (keeps.ghosts.side.drawn s ≡ 0) × (keeps.ghosts.side.given s ≡ 0)
      fresh s has = keeps.fits.had_are.fresh s (never_had s (is ∙ has) (λ same. differs (same ∙ sym has)))

  learned_fits : FitsClerk p.told.chain known.index (p.told.boots (Node n)) keeps.ghosts.side (had_with (session_of known n (p.told.boots (Node n))) keeps.ghosts.had) keeps.ghosts.promised n (learned known (clerks n))
  learned_fits = subst (λ (o : Option ℕ). Fit (record (with_session known o (clerks n)) { knows = known.index; server = known.master })) (sym own_is) (elim (tested (is_same (clerks n).session (session_of known n (p.told.boots (Node n))))) [
    | passes is ↦ subst Fit (sym (ap (λ (b : Bool). record (if b then stays else goes) { knows = known.index; server = known.master }) is)) (stays_fits (same_so (clerks n).session (session_of known n (p.told.boots (Node n))) is))
    | misses is_not ↦ subst Fit (sym (ap (λ (b : Bool). record (if b then stays else goes) { knows = known.index; server = known.master }) is_not))
        (other_fits (session_of known n (p.told.boots (Node n))) refl (same_not (clerks n).session (session_of known n (p.told.boots (Node n))) is_not))
  ])
    where
      Fit : Clerking → Type 0
      Fit c = FitsClerk p.told.chain known.index (p.told.boots (Node n)) keeps.ghosts.side (had_with (session_of known n (p.told.boots (Node n))) keeps.ghosts.had) keeps.ghosts.promised n c

      stays : Clerking
      stays = record (clerks n) { lease = max (clerks n).lease (until_of known (session_of known n (p.told.boots (Node n)))) }

      goes : Clerking
      goes = record (clerks n) { session = session_of known n (p.told.boots (Node n)); lease = until_of known (session_of known n (p.told.boots (Node n))); requests = []; asks = [] }

  -- what a clerk's session is then
  pub learned_session : (learned known (clerks n)).session ≡ session_of known n (p.told.boots (Node n))
  learned_session = by_test (is_same (clerks n).session (session_of known (clerks n).node (clerks n).boot)) refl
    where
      by_test : (b : Bool) → is_same (clerks n).session (session_of known (clerks n).node (clerks n).boot) ≡ b → (learned known (clerks n)).session ≡ session_of known n (p.told.boots (Node n))
      by_test true is = ap (λ (b : Bool). (if b then record (clerks n) { lease = max (clerks n).lease (until_of known (session_of known (clerks n).node (clerks n).boot)) }
          else record (clerks n) { session = session_of known (clerks n).node (clerks n).boot; lease = until_of known (session_of known (clerks n).node (clerks n).boot); requests = []; asks = [] }).session) is
          ∙ same_so (clerks n).session (session_of known (clerks n).node (clerks n).boot) is ∙ own_is
      by_test false is_not = ap (λ (b : Bool). (if b then record (clerks n) { lease = max (clerks n).lease (until_of known (session_of known (clerks n).node (clerks n).boot)) }
          else record (clerks n) { session = session_of known (clerks n).node (clerks n).boot; lease = until_of known (session_of known (clerks n).node (clerks n).boot); requests = []; asks = [] }).session) is_not
          ∙ own_is

  -- ---- all fits

  knew_rises : (who : Actor) → p.told.knew who ≤ put_at (Node n) known.index p.told.knew who
  knew_rises who = elim (tested (is_machine (Node n) who)) [
    | passes is ↦ subst (λ (b : Bool). p.told.knew who ≤ (if b then known.index else p.told.knew who)) (sym is)
        (let e : Node n ≡ who = is_one (Node n) who is in let k = ap p.told.knew e in let r = handed.rises in omega (arith, k, r))
    | misses is_not ↦ subst (λ (b : Bool). p.told.knew who ≤ (if b then known.index else p.told.knew who)) (sym is_not) (omega arith)
  ]

  -- a session that it had, and has no more, is never its again
  never_again : (s : ℕ) → keeps.ghosts.had s ≡ true → session_of known n (p.told.boots (Node n)) ≢ Some s → (q : GlobalState) → IsPlace p.told.chain q → known.index ≤ q.index → session_of q n (p.told.boots (Node n)) ≢ Some s
  never_again s had differs q place order is =
      let w = keeps.fits.had_are.was s had in
      let one = one_session p.told.chain q w.state n w.node (p.told.boots (Node n)) w.boot s keeps.fits.states.rising place w.place is w.own in
      let seen = w.seen (sym one.1 ∙ ap (λ (k : ℕ). p.told.boots (Node k)) one.0) in
      let e = ap (λ (k : ℕ). p.told.knew (Node k)) one.0 in
      let r = handed.rises in
      let next = (go p.told.chain w.state known w.place handed.place (omega (arith, seen, e, r))).next in
      let given = own_given w.state w.node w.boot s (keeps.fits.states.rising w.state w.place) w.own in
      differs (was_own p.told.chain known q n (p.told.boots (Node n)) s handed.place place order (keeps.fits.states.single known handed.place) is_new (omega (arith, given, next)) is)

  abbrev knew_then : Actor → ℕ
  knew_then = put_at (Node n) known.index p.told.knew

  was_then : (s : ℕ) → had_with (session_of known n (p.told.boots (Node n))) keeps.ghosts.had s ≡ true → WasHad p.told.chain knew_then p.told.boots s
  was_then s had = ⊎_elim
      (λ is. record {
        state = known;
        node = n;
        boot = p.told.boots (Node n);
        place = handed.place;
        own = is;
        own_boot = handed.own_boot;
        most = omega arith;
        seen = λ same. let e = here (Node n) known.index p.told.knew in omega (arith, e);
      })
      (λ old. let w = keeps.fits.had_are.was s old.0 in record {
        state = w.state;
        node = w.node;
        boot = w.boot;
        place = w.place;
        own = w.own;
        own_boot = w.own_boot;
        most = w.most;
        seen = λ same. let i = w.seen same in let r = knew_rises (Node w.node) in omega (arith, i, r);
      })
      (had_now (session_of known n (p.told.boots (Node n))) keeps.ghosts.had s had)

  other_node : (m : ℕ) → m ≢ n → Node m ≢ Node n
  other_node m differ is = differ (let e : m ≡ n = cc in e)

  pub clerk_learns : (greatest : ℕ) (changes : List Change) → AreLeases p.told.chain greatest changes keeps.ghosts.promised keeps.ghosts.noted keeps.ghosts.ends keeps.ghosts.term.expiring → AreBooted p.told.chain changes p.told.boots
      → PutsOne n (learned known (clerks n)) clerks more → Keeps nodes masters more (record p { told = record p.told { handed = changes; greatest = greatest; knew = knew_then } })
  clerk_learns greatest changes leases booted puts = record {
    ghosts = record {
      said = keeps.ghosts.said;
      side = keeps.ghosts.side;
      term = keeps.ghosts.term;
      promised = keeps.ghosts.promised;
      noted = keeps.ghosts.noted;
      ends = keeps.ghosts.ends;
      had = had_with (session_of known n (p.told.boots (Node n))) keeps.ghosts.had;
    };
    fits = record {
      locks = keeps.fits.locks;
      leases_are = leases;
      had_are = record {
        was = was_then;
        once = λ s m had. ⊎_elim
            (λ same. subst (Once s) (sym same.1) (⊎_elim
            (λ is. inl (ap (λ (c : Clerking). c.session) puts.at ∙ learned_session ∙ is))
            (λ old. inr (λ q place order. never_again s old.0 old.1 q place (let e = here (Node n) known.index p.told.knew in omega (arith, order, e))))
            (had_now (session_of known n (p.told.boots (Node n))) keeps.ghosts.had s had)))
            (λ other. ⊎_elim
            (λ is. inr (λ q place order also. other.1 (one_session p.told.chain q known m n (p.told.boots (Node m)) (p.told.boots (Node n)) s keeps.fits.states.rising place handed.place also is).0))
            (λ old. ⊎_elim
            (λ has. inl (ap (λ (c : Clerking). c.session) (puts.others m other.1) ∙ has))
            (λ never. inr (λ q place order. never q place (let e = elsewhere (Node n) (Node m) known.index p.told.knew (other_node m other.1) in omega (arith, order, e))))
            (keeps.fits.had_are.once s m old.0))
            (had_now (session_of known n (p.told.boots (Node n))) keeps.ghosts.had s had))
            (eqb_tells m n);
        fresh = λ s none. keeps.fits.had_are.fresh s (had_none (session_of known n (p.told.boots (Node n))) keeps.ghosts.had s none);
      };
      states = keeps.fits.states;
      booted = booted;
      knew_most = λ who. elim (tested (is_machine (Node n) who)) [
        | passes is ↦ subst (λ (b : Bool). (if b then known.index else p.told.knew who) ≤ (last p.told.chain).index) (sym is) (place_most p.told.chain known handed.place)
        | misses is_not ↦ subst (λ (b : Bool). (if b then known.index else p.told.knew who) ≤ (last p.told.chain).index) (sym is_not) (keeps.fits.knew_most who)
      ];
      clerk = λ m. ⊎_elim
          (λ same. subst (λ (k : ℕ). Fit (knew_then (Node k)) (p.told.boots (Node k)) k (more k)) (sym same.1)
          (subst (λ (i : ℕ). Fit i (p.told.boots (Node n)) n (more n)) (sym (here (Node n) known.index p.told.knew)) (subst (λ (c : Clerking). Fit known.index (p.told.boots (Node n)) n c) (sym puts.at) learned_fits)))
          (λ other. subst (λ (i : ℕ). Fit i (p.told.boots (Node m)) m (more m)) (sym (elsewhere (Node n) (Node m) known.index p.told.knew (other_node m other.1)))
          (subst (λ (c : Clerking). Fit (p.told.knew (Node m)) (p.told.boots (Node m)) m c) (sym (puts.others m other.1))
          (clerk_had p.told.chain (p.told.knew (Node m)) (p.told.boots (Node m)) keeps.ghosts.side keeps.ghosts.had (had_with (session_of known n (p.told.boots (Node n))) keeps.ghosts.had) keeps.ghosts.promised m (clerks m)
          (had_on (session_of known n (p.told.boots (Node n))) keeps.ghosts.had) (keeps.fits.clerk m))))
          (eqb_tells m n);
      node = λ m there. ⊎_elim
          (λ same. ap (λ (k : ℕ). (more k).node) same.1 ∙ ap (λ (c : Clerking). c.node) puts.at ∙ learned_node ∙ ap (λ (k : ℕ). (clerks k).node) (sym same.1) ∙ keeps.fits.node m there)
          (λ other. ap (λ (c : Clerking). c.node) (puts.others m other.1) ∙ keeps.fits.node m there)
          (eqb_tells m n);
      boot = λ m there up. ⊎_elim
          (λ same. ap (λ (k : ℕ). (more k).boot) same.1 ∙ ap (λ (c : Clerking). c.boot) puts.at ∙ learned_boot ∙ ap (λ (k : ℕ). (clerks k).boot) (sym same.1) ∙ keeps.fits.boot m there up)
          (λ other. ap (λ (c : Clerking). c.boot) (puts.others m other.1) ∙ keeps.fits.boot m there up)
          (eqb_tells m n);
      server = keeps.fits.server;
      master = keeps.fits.master;
      before = keeps.fits.before;
      letters = keeps.fits.letters;
      words = keeps.fits.words;
      promises = keeps.fits.promises;
      leases = keeps.fits.leases;
    };
  }
    where
      Once : ℕ → ℕ → Type 0
      Once s m = ((more m).session ≡ Some s) ⊎ ((q : GlobalState) → IsPlace p.told.chain q → knew_then (Node m) ≤ q.index → session_of q m (p.told.boots (Node m)) ≢ Some s)

      Fit : ℕ → ℕ → ℕ → Clerking → Type 0
      Fit i b m c = FitsClerk p.told.chain i b keeps.ghosts.side (had_with (session_of known n (p.told.boots (Node n))) keeps.ghosts.had) keeps.ghosts.promised m c

      stays : Clerking
      stays = record (clerks n) { lease = max (clerks n).lease (until_of known (session_of known (clerks n).node (clerks n).boot)) }

      goes : Clerking
      goes = record (clerks n) { session = session_of known (clerks n).node (clerks n).boot; lease = until_of known (session_of known (clerks n).node (clerks n).boot); requests = []; asks = [] }

      learned_node : (learned known (clerks n)).node ≡ (clerks n).node
      learned_node = by_test (is_same (clerks n).session (session_of known (clerks n).node (clerks n).boot)) refl
        where
          by_test : (b : Bool) → is_same (clerks n).session (session_of known (clerks n).node (clerks n).boot) ≡ b → (learned known (clerks n)).node ≡ (clerks n).node
          by_test true is = ap (λ (b : Bool). (if b then stays else goes).node) is
          by_test false is_not = ap (λ (b : Bool). (if b then stays else goes).node) is_not

      learned_boot : (learned known (clerks n)).boot ≡ (clerks n).boot
      learned_boot = by_test (is_same (clerks n).session (session_of known (clerks n).node (clerks n).boot)) refl
        where
          by_test : (b : Bool) → is_same (clerks n).session (session_of known (clerks n).node (clerks n).boot) ≡ b → (learned known (clerks n)).boot ≡ (clerks n).boot
          by_test true is = ap (λ (b : Bool). (if b then stays else goes).boot) is
          by_test false is_not = ap (λ (b : Bool). (if b then stays else goes).boot) is_not

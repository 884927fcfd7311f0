-- Machines stop and start again, the clock goes on, and machines that are neither nodes nor servers hear something: all fits again.
use Rattle.std.proofs.Common.{◌≡◌, ◌≢◌, inl, inr, ⊎_elim, ◌⊎◌, ℕ, ◌<◌, ◌≤◌, Bool, true, false, List, [], max, Some, None, refl, sym, ◌∙◌, ap, subst, arith}
use Rattle.std.specs.Prelude.{if◌then◌else◌}
use Rattle.std.proofs.lemmas.Bool.Decides.{eqb_tells}
use Rattle.bx_base.specs.declared.names.Actor.{Actor}
use Rattle.bx_base.specs.declared.names.Actor.TheVariants.{Node, Replica, Member, Server as ServerOf}
use Rattle.bx_global.specs.declared.state.GlobalState.{GlobalState}
use Rattle.bx_rows.specs.Conditions.{Fits}
use Rattle.bx_facts.specs.Chains.{Chain, IsPlace, last, session_of}
use Rattle.bx_facts.specs.Holds.{OwnersPast, owners_crashed, owners_heard, owners_restarted}
use Rattle.bx_facts.specs.Machines.{is_same as is_machine, put_at}
use Rattle.bx_facts.specs.Inputs.{greatest_with}
use Rattle.bx_facts.specs.Pasts.{MayRestart}
use Rattle.bx_facts.specs.declared.input.Input.{Input}
use Rattle.bx_facts.specs.declared.input.Input.TheVariants.{Packet, Tick, Synced}
use Rattle.bx_facts.proofs.Machines.{elsewhere, here}
use Rattle.bx_locking.specs.Tables.{Side}
use Rattle.bx_locking.proofs.Basics.{place_most}
use Rattle.bx_locking.proofs.Leases.{reads_on}
use Rattle.bx_master.specs.Masters.{Mastering}
use Rattle.bx_master.specs.Masters as masters_of
use Rattle.bx_clerk.specs.Clerks.{Clerking}
use Rattle.bx_clerk.specs.Clerks as clerks_of
use Rattle.bx_clerk.specs.Requests.{Requests, request_in}
use Rattle.bx_clerk.specs.declared.requests.Asking.{Asking}
use Rattle.bx_lock_machines.specs.Keeps.{AreSame, FitsPast, Ghosts, Keeps, PutsOne}
use Rattle.bx_lock_steps.specs.Machines.{AreUnique, FitsClerk, FitsMaster}
use Rattle.bx_lock_steps.proofs.Accounts.{misses, passes, tested}
use Rattle.bx_lock_machines.proofs.Alike.{alike}
use Rattle.bx_lock_machines.proofs.Boots.{booted_rises}
use Rattle.bx_lock_steps.proofs.Chains.{one_session}

-- ---- a machine stops: less is asked of it

-- where it was down already, or is now
was_up : (who other : Actor) (down : Actor → Bool) → put_at who true down other ≡ false → down other ≡ false
was_up who other down up = by_test (is_machine who other) refl
  where
    by_test : (b : Bool) → is_machine who other ≡ b → down other ≡ false
    by_test true is = let e : true ≡ false = sym (ap (λ (b : Bool). if b then true else down other) is) ∙ up in absurd cc
    by_test false is_not = sym (ap (λ (b : Bool). if b then true else down other) is_not) ∙ up

crashed : (nodes : ℕ) (masters : ℕ → Mastering) (clerks : ℕ → Clerking) (past : OwnersPast) (who : Actor) → Keeps nodes masters clerks past → Keeps nodes masters clerks (owners_crashed past who)
crashed nodes masters clerks past who keeps = record {
  ghosts = keeps.ghosts;
  fits = record {
    locks = keeps.fits.locks;
    leases_are = keeps.fits.leases_are;
    had_are = keeps.fits.had_are;
    states = keeps.fits.states;
    booted = keeps.fits.booted;
    knew_most = keeps.fits.knew_most;
    clerk = keeps.fits.clerk;
    node = keeps.fits.node;
    boot = λ n inside up. keeps.fits.boot n inside (was_up who (Node n) past.told.down up);
    server = keeps.fits.server;
    master = λ id inside up. keeps.fits.master id inside (was_up who (ServerOf id) past.told.down up);
    before = keeps.fits.before;
    letters = keeps.fits.letters;
    words = keeps.fits.words;
    promises = keeps.fits.promises;
    leases = keeps.fits.leases;
  };
}

pub crashes : (nodes : ℕ) (masters others : ℕ → Mastering) (clerks more : ℕ → Clerking) (past : OwnersPast) (who : Actor) → AreSame masters others → AreSame clerks more → Keeps nodes masters clerks past → Keeps nodes others more (owners_crashed past who)
crashes nodes masters others clerks more past who masters_same clerks_same keeps = alike nodes masters others clerks more (owners_crashed past who) masters_same clerks_same (crashed nodes masters clerks past who keeps)

-- ---- the clock goes on

pub clock : (nodes : ℕ) (masters : ℕ → Mastering) (clerks : ℕ → Clerking) (past : OwnersPast) (greatest : ℕ) → past.told.greatest ≤ greatest → Keeps nodes masters clerks past → Keeps nodes masters clerks (record past { told = record past.told { greatest = greatest } })
clock nodes masters clerks past greatest greater keeps = record {
  ghosts = keeps.ghosts;
  fits = record {
    locks = keeps.fits.locks;
    leases_are = reads_on past.told.chain past.told.greatest greatest past.told.handed keeps.ghosts.promised keeps.ghosts.noted keeps.ghosts.ends keeps.ghosts.term.expiring keeps.fits.leases_are greater;
    had_are = keeps.fits.had_are;
    states = keeps.fits.states;
    booted = keeps.fits.booted;
    knew_most = keeps.fits.knew_most;
    clerk = keeps.fits.clerk;
    node = keeps.fits.node;
    boot = keeps.fits.boot;
    server = keeps.fits.server;
    master = keeps.fits.master;
    before = keeps.fits.before;
    letters = keeps.fits.letters;
    words = keeps.fits.words;
    promises = keeps.fits.promises;
    leases = keeps.fits.leases;
  };
}

-- ---- machines that are neither nodes nor servers

abbrev pub IsBeside : Actor → Type 0
IsBeside (Node n) = ⊥
IsBeside (Replica n) = Unit {0}
IsBeside (ServerOf n) = ⊥
IsBeside (Member n) = Unit {0}

-- what is told of nodes and servers stays
module _ (nodes : ℕ) (masters : ℕ → Mastering) (clerks : ℕ → Clerking) (past : OwnersPast) (keeps : Keeps nodes masters clerks past) (knew boots : Actor → ℕ) (down : Actor → Bool) (greatest : ℕ) where
  told_beside : ((n : ℕ) → knew (Node n) ≡ past.told.knew (Node n)) → ((n : ℕ) → knew (ServerOf n) ≡ past.told.knew (ServerOf n)) → ((n : ℕ) → boots (Node n) ≡ past.told.boots (Node n)) → ((n : ℕ) → boots (ServerOf n) ≡ past.told.boots (ServerOf n))
      → ((n : ℕ) → down (Node n) ≡ past.told.down (Node n)) → ((n : ℕ) → down (ServerOf n) ≡ past.told.down (ServerOf n)) → ((who : Actor) → knew who ≤ (last past.told.chain).index) → past.told.greatest ≤ greatest
      → Keeps nodes masters clerks (record past { told = record past.told { greatest = greatest; knew = knew; boots = boots; down = down } })
  told_beside knew_node knew_server boots_node boots_server down_node down_server most greater = record {
    ghosts = g;
    fits = record {
      locks = f.locks;
      leases_are = reads_on past.told.chain past.told.greatest greatest past.told.handed g.promised g.noted g.ends g.term.expiring f.leases_are greater;
      had_are = record {
        was = λ s had. let w = f.had_are.was s had in record {
          state = w.state;
          node = w.node;
          boot = w.boot;
          place = w.place;
          own = w.own;
          own_boot = w.own_boot;
          most = let m = w.most in let e = boots_node w.node in omega (arith, m, e);
          seen = λ same. let i = w.seen (same ∙ boots_node w.node) in let e = knew_node w.node in omega (arith, i, e);
        };
        once = λ s n had. ⊎_elim
            (λ own. inl own)
            (λ never. inr (λ p place order is. never p place (let e = knew_node n in omega (arith, order, e)) (ap (session_of p n) (sym (boots_node n)) ∙ is)))
            (f.had_are.once s n had);
        fresh = f.had_are.fresh;
      };
      states = f.states;
      booted = booted_rises past.told.chain past.told.handed past.told.boots boots (λ n. let e = boots_node n in omega (arith, e)) f.booted;
      knew_most = most;
      clerk = λ n. subst (λ (k : ℕ). FitsClerk past.told.chain k (boots (Node n)) g.side g.had g.promised n (clerks n)) (sym (knew_node n))
          (subst (λ (b : ℕ). FitsClerk past.told.chain (past.told.knew (Node n)) b g.side g.had g.promised n (clerks n)) (sym (boots_node n)) (f.clerk n));
      node = f.node;
      boot = λ n inside up. f.boot n inside (sym (down_node n) ∙ up) ∙ sym (boots_node n);
      server = f.server;
      master = λ id inside up. subst (λ (k : ℕ). FitsMaster past.told.chain k (boots (ServerOf id)) g.said g.side.drawn g.term g.noted id (masters id)) (sym (knew_server id))
          (subst (λ (b : ℕ). FitsMaster past.told.chain (past.told.knew (ServerOf id)) b g.said g.side.drawn g.term g.noted id (masters id)) (sym (boots_server id)) (f.master id inside (sym (down_server id) ∙ up)));
      before = λ ahead. f.before (let e = boots_server (last past.told.chain).master in omega (arith, ahead, e));
      letters = f.letters;
      words = f.words;
      promises = f.promises;
      leases = f.leases;
    };
  }
    where
      g : Ghosts
      g = keeps.ghosts

      f : FitsPast nodes masters clerks past keeps.ghosts
      f = keeps.fits

greater : (greatest : ℕ) (input : Input) → greatest ≤ greatest_with greatest input
greater greatest (Packet packet reading) = omega arith
greater greatest (Tick reading) = omega arith
greater greatest Synced = omega arith

-- the index that such a machine was handed is one of the chain's
knew_at : (last_index : ℕ) (who : Actor) (index : ℕ) (knew : Actor → ℕ) → index ≤ last_index → ((other : Actor) → knew other ≤ last_index) → (other : Actor) → put_at who index knew other ≤ last_index
knew_at last_index who index knew most each other = elim (tested (is_machine who other)) [
  | passes is ↦ subst (λ (b : Bool). (if b then index else knew other) ≤ last_index) (sym is) most
  | misses is_not ↦ subst (λ (b : Bool). (if b then index else knew other) ≤ last_index) (sym is_not) (each other)
]

pub beside_hears : (nodes : ℕ) (masters others : ℕ → Mastering) (clerks more : ℕ → Clerking) (past : OwnersPast) (who : Actor) (known : GlobalState) (input : Input) → IsBeside who → AreSame masters others → AreSame clerks more → IsPlace past.told.chain known
    → Keeps nodes masters clerks past → Keeps nodes others more (owners_heard past who known.index input None)
beside_hears nodes masters others clerks more past (Node n) known input beside masters_same clerks_same place keeps = absurd beside
beside_hears nodes masters others clerks more past (ServerOf n) known input beside masters_same clerks_same place keeps = absurd beside
beside_hears nodes masters others clerks more past (Replica n) known input beside masters_same clerks_same place keeps =
    alike nodes masters others clerks more (owners_heard past (Replica n) known.index input None) masters_same clerks_same
    (told_beside nodes masters clerks past keeps (put_at (Replica n) known.index past.told.knew) past.told.boots past.told.down (greatest_with past.told.greatest input) (λ m. refl) (λ m. refl) (λ m. refl) (λ m. refl) (λ m. refl) (λ m. refl)
    (knew_at (last past.told.chain).index (Replica n) known.index past.told.knew (place_most past.told.chain known place) keeps.fits.knew_most) (greater past.told.greatest input))
beside_hears nodes masters others clerks more past (Member n) known input beside masters_same clerks_same place keeps =
    alike nodes masters others clerks more (owners_heard past (Member n) known.index input None) masters_same clerks_same
    (told_beside nodes masters clerks past keeps (put_at (Member n) known.index past.told.knew) past.told.boots past.told.down (greatest_with past.told.greatest input) (λ m. refl) (λ m. refl) (λ m. refl) (λ m. refl) (λ m. refl) (λ m. refl)
    (knew_at (last past.told.chain).index (Member n) known.index past.told.knew (place_most past.told.chain known place) keeps.fits.knew_most) (greater past.told.greatest input))

beside_restarted : (nodes : ℕ) (masters : ℕ → Mastering) (clerks : ℕ → Clerking) (past : OwnersPast) (who : Actor) (boot reading : ℕ) → IsBeside who → Keeps nodes masters clerks past → Keeps nodes masters clerks (owners_restarted past who boot reading)
beside_restarted nodes masters clerks past (Node n) boot reading beside keeps = absurd beside
beside_restarted nodes masters clerks past (ServerOf n) boot reading beside keeps = absurd beside
beside_restarted nodes masters clerks past (Replica n) boot reading beside keeps =
    told_beside nodes masters clerks past keeps (put_at (Replica n) 0 past.told.knew) (put_at (Replica n) boot past.told.boots) (put_at (Replica n) false past.told.down) (max past.told.greatest reading) (λ m. refl) (λ m. refl) (λ m. refl) (λ m. refl) (λ m. refl) (λ m. refl)
    (knew_at (last past.told.chain).index (Replica n) 0 past.told.knew (omega arith) keeps.fits.knew_most) (omega arith)
beside_restarted nodes masters clerks past (Member n) boot reading beside keeps =
    told_beside nodes masters clerks past keeps (put_at (Member n) 0 past.told.knew) (put_at (Member n) boot past.told.boots) (put_at (Member n) false past.told.down) (max past.told.greatest reading) (λ m. refl) (λ m. refl) (λ m. refl) (λ m. refl) (λ m. refl) (λ m. refl)
    (knew_at (last past.told.chain).index (Member n) 0 past.told.knew (omega arith) keeps.fits.knew_most) (omega arith)

pub beside_restarts : (nodes : ℕ) (masters others : ℕ → Mastering) (clerks more : ℕ → Clerking) (past : OwnersPast) (who : Actor) (boot reading : ℕ) → IsBeside who → AreSame masters others → AreSame clerks more
    → Keeps nodes masters clerks past → Keeps nodes others more (owners_restarted past who boot reading)
beside_restarts nodes masters others clerks more past who boot reading beside masters_same clerks_same keeps =
    alike nodes masters others clerks more (owners_restarted past who boot reading) masters_same clerks_same (beside_restarted nodes masters clerks past who boot reading beside keeps)

-- ---- a node starts again

-- a clerk that has no session and asked for nothing
pub record IsIdle (c : Clerking) : Type 0 where
  pub session : c.session ≡ None
  pub requests : c.requests ≡ []
  pub drawn_fits : Fits c.drawn
  pub given_fits : Fits c.given
  pub knows_fits : Fits c.knows

-- that of a node, where the cluster has the node, in this boot
pub record IsBlank (nodes n boot : ℕ) (c : Clerking) : Type 0 where
  pub idle : IsIdle c
  pub node : n < nodes → c.node ≡ n
  pub boot_is : n < nodes → c.boot ≡ boot

pub idle_fits : (chain : Chain) (knew boot : ℕ) (side : Side) (had : ℕ → Bool) (promised : List (ℕ × ℕ)) (n : ℕ) (c : Clerking) → IsIdle c → FitsClerk chain knew boot side had promised n c
idle_fits chain knew boot side had promised n c blank = record {
  unique = subst AreUnique (sym blank.requests) tt;
  none = λ none b. ap (λ (rs : Requests). request_in rs b) blank.requests;
  session = λ s own. absurd (none_some s (sym blank.session ∙ own));
  this_life = λ s own. absurd (none_some s (sym blank.session ∙ own));
  had_is = λ s own. absurd (none_some s (sym blank.session ∙ own));
  requests = λ s own. absurd (none_some s (sym blank.session ∙ own));
  drawn = λ s own. absurd (none_some s (sym blank.session ∙ own));
  given = λ s own. absurd (none_some s (sym blank.session ∙ own));
  lease = λ s own. absurd (none_some s (sym blank.session ∙ own));
  blocks = λ b r there. absurd (none_asking r (sym (ap (λ (rs : Requests). request_in rs b) blank.requests) ∙ there));
  drawn_fits = blank.drawn_fits;
  given_fits = blank.given_fits;
  knows_fits = blank.knows_fits;
}
  where
    none_some : (s : ℕ) → None ≡ Some s → ⊥
    none_some s wrong = cc

    none_asking : (r : Asking) → None ≡ Some r → ⊥
    none_asking r wrong = cc

other_node : (m n : ℕ) → m ≢ n → Node m ≢ Node n
other_node m n differ is = differ (let e : m ≡ n = cc in e)

pub node_restarts : (nodes : ℕ) (masters others : ℕ → Mastering) (clerks more : ℕ → Clerking) (past : OwnersPast) (n boot reading : ℕ) (new : Clerking) → AreSame masters others → PutsOne n new clerks more → IsBlank nodes n boot new
    → MayRestart past.told (Node n) boot reading → Keeps nodes masters clerks past → Keeps nodes others more (owners_restarted past (Node n) boot reading)
node_restarts nodes masters others clerks more past n boot reading new masters_same puts blank may keeps = record {
  ghosts = g;
  fits = record {
    locks = f.locks;
    leases_are = reads_on past.told.chain past.told.greatest (max past.told.greatest reading) past.told.handed g.promised g.noted g.ends g.term.expiring f.leases_are (omega arith);
    had_are = record {
      was = λ s had. let w = f.had_are.was s had in record {
        state = w.state;
        node = w.node;
        boot = w.boot;
        place = w.place;
        own = w.own;
        own_boot = w.own_boot;
        most = ⊎_elim
            (λ is. let m = w.most in let e = ap (λ (k : ℕ). past.told.boots (Node k)) is.1 in let b = may.boot_rises in let h = here (Node n) boot past.told.boots in let k = ap (λ (x : ℕ). put_at (Node n) boot past.told.boots (Node x)) is.1 in omega (arith, m, e, b, h, k))
            (λ other. let m = w.most in let e = elsewhere (Node n) (Node w.node) boot past.told.boots (other_node w.node n other.1) in omega (arith, m, e))
            (eqb_tells w.node n);
        seen = λ same. ⊎_elim
            (λ is. absurd (let m = w.most in let e = ap (λ (k : ℕ). past.told.boots (Node k)) is.1 in let b = may.boot_rises in let h = here (Node n) boot past.told.boots in let k = ap (λ (x : ℕ). put_at (Node n) boot past.told.boots (Node x)) is.1 in omega (arith, m, e, b, h, k, same)))
            (λ other. let i = w.seen (same ∙ elsewhere (Node n) (Node w.node) boot past.told.boots (other_node w.node n other.1)) in let e = elsewhere (Node n) (Node w.node) 0 past.told.knew (other_node w.node n other.1) in omega (arith, i, e))
            (eqb_tells w.node n);
      };
      once = λ s m had. ⊎_elim
          (λ is. subst (Once s) (sym is.1) (inr (λ q place order own.
          let w = f.had_are.was s had in
          let one = one_session past.told.chain q w.state n w.node (put_at (Node n) boot past.told.boots (Node n)) w.boot s f.states.rising place w.place own w.own in
          let e = ap (λ (k : ℕ). past.told.boots (Node k)) one.0 in let m = w.most in let b = may.boot_rises in let o = one.1 in let h = here (Node n) boot past.told.boots in omega (arith, e, m, b, o, h))))
          (λ other. ⊎_elim
          (λ own. inl (ap (λ (c : Clerking). c.session) (puts.others m other.1) ∙ own))
          (λ never. inr (λ q place order is. never q place (let e = elsewhere (Node n) (Node m) 0 past.told.knew (other_node m n other.1) in omega (arith, order, e))
          (ap (session_of q m) (sym (elsewhere (Node n) (Node m) boot past.told.boots (other_node m n other.1))) ∙ is)))
          (f.had_are.once s m had))
          (eqb_tells m n);
      fresh = f.had_are.fresh;
    };
    states = f.states;
    booted = booted_rises past.told.chain past.told.handed past.told.boots (put_at (Node n) boot past.told.boots) rises f.booted;
    knew_most = knew_at (last past.told.chain).index (Node n) 0 past.told.knew (omega arith) f.knew_most;
    clerk = λ m. ⊎_elim
        (λ is. subst (λ (k : ℕ). Fit (put_at (Node n) 0 past.told.knew (Node k)) (put_at (Node n) boot past.told.boots (Node k)) k (more k)) (sym is.1)
        (subst (λ (c : Clerking). Fit (put_at (Node n) 0 past.told.knew (Node n)) (put_at (Node n) boot past.told.boots (Node n)) n c) (sym puts.at)
        (idle_fits past.told.chain (put_at (Node n) 0 past.told.knew (Node n)) (put_at (Node n) boot past.told.boots (Node n)) g.side g.had g.promised n new blank.idle)))
        (λ other. subst (λ (i : ℕ). Fit i (put_at (Node n) boot past.told.boots (Node m)) m (more m)) (sym (elsewhere (Node n) (Node m) 0 past.told.knew (other_node m n other.1)))
        (subst (λ (b : ℕ). Fit (past.told.knew (Node m)) b m (more m)) (sym (elsewhere (Node n) (Node m) boot past.told.boots (other_node m n other.1)))
        (subst (λ (c : Clerking). Fit (past.told.knew (Node m)) (past.told.boots (Node m)) m c) (sym (puts.others m other.1)) (f.clerk m))))
        (eqb_tells m n);
    node = λ m inside. ⊎_elim
        (λ is. ap (λ (k : ℕ). (more k).node) is.1 ∙ ap (λ (c : Clerking). c.node) puts.at ∙ blank.node (let e = is.1 in omega (arith, inside, e)) ∙ sym is.1)
        (λ other. ap (λ (c : Clerking). c.node) (puts.others m other.1) ∙ f.node m inside)
        (eqb_tells m n);
    boot = λ m inside up. ⊎_elim
        (λ is. ap (λ (k : ℕ). (more k).boot) is.1 ∙ ap (λ (c : Clerking). c.boot) puts.at ∙ blank.boot_is (let e = is.1 in omega (arith, inside, e)) ∙ sym (here (Node n) boot past.told.boots)
        ∙ ap (λ (k : ℕ). put_at (Node n) boot past.told.boots (Node k)) (sym is.1))
        (λ other. ap (λ (c : Clerking). c.boot) (puts.others m other.1) ∙ f.boot m inside (sym (elsewhere (Node n) (Node m) false past.told.down (other_node m n other.1)) ∙ up) ∙ sym (elsewhere (Node n) (Node m) boot past.told.boots (other_node m n other.1)))
        (eqb_tells m n);
    server = λ id inside. ap (λ (m : Mastering). m.server) (masters_same.each id) ∙ f.server id inside;
    master = λ id inside up. subst (λ (m : Mastering). FitsMaster past.told.chain (past.told.knew (ServerOf id)) (past.told.boots (ServerOf id)) g.said g.side.drawn g.term g.noted id m) (sym (masters_same.each id)) (f.master id inside up);
    before = f.before;
    letters = f.letters;
    words = f.words;
    promises = f.promises;
    leases = f.leases;
  };
}
  where
    g : Ghosts
    g = keeps.ghosts

    f : FitsPast nodes masters clerks past keeps.ghosts
    f = keeps.fits

    rises : (m : ℕ) → past.told.boots (Node m) ≤ put_at (Node n) boot past.told.boots (Node m)
    rises m = ⊎_elim
        (λ is. let b = may.boot_rises in let h = here (Node n) boot past.told.boots in let e = ap (λ (k : ℕ). past.told.boots (Node k)) is.1 in let k = ap (λ (x : ℕ). put_at (Node n) boot past.told.boots (Node x)) is.1 in omega (arith, b, h, e, k))
        (λ other. let e = elsewhere (Node n) (Node m) boot past.told.boots (other_node m n other.1) in omega (arith, e))
        (eqb_tells m n)

    Once : ℕ → ℕ → Type 0
    Once s m = ((more m).session ≡ Some s) ⊎ ((q : GlobalState) → IsPlace past.told.chain q → put_at (Node n) 0 past.told.knew (Node m) ≤ q.index → session_of q m (put_at (Node n) boot past.told.boots (Node m)) ≢ Some s)

    Fit : ℕ → ℕ → ℕ → Clerking → Type 0
    Fit i b m c = FitsClerk past.told.chain i b g.side g.had g.promised m c

-- what a clerk of the cluster is then
pub restarted_blank : (nodes : ℕ) (masters : ℕ → Mastering) (clerks : ℕ → Clerking) (past : OwnersPast) (n boot : ℕ) → Keeps nodes masters clerks past → IsBlank nodes n boot (clerks_of.restarted boot (clerks n))
restarted_blank nodes masters clerks past n boot keeps = record {
  idle = record { session = refl; requests = refl; drawn_fits = omega arith; given_fits = omega arith; knows_fits = omega arith };
  node = λ inside. keeps.fits.node n inside;
  boot_is = λ inside. refl;
}

-- ---- a server starts again

other_server : (m n : ℕ) → m ≢ n → ServerOf m ≢ ServerOf n
other_server m n differ is = differ (let e : m ≡ n = cc in e)

pub server_restarts : (nodes : ℕ) (masters others : ℕ → Mastering) (clerks more : ℕ → Clerking) (past : OwnersPast) (id boot reading : ℕ) → (id < 2 → others id ≡ masters_of.restarted boot (masters id)) → ((j : ℕ) → j ≢ id → others j ≡ masters j) → AreSame clerks more
    → MayRestart past.told (ServerOf id) boot reading → Keeps nodes masters clerks past → Keeps nodes others more (owners_restarted past (ServerOf id) boot reading)
server_restarts nodes masters others clerks more past id boot reading at apart clerks_same may keeps = record {
  ghosts = g;
  fits = record {
    locks = f.locks;
    leases_are = reads_on past.told.chain past.told.greatest (max past.told.greatest reading) past.told.handed g.promised g.noted g.ends g.term.expiring f.leases_are (omega arith);
    had_are = record {
      was = λ s had. let w = f.had_are.was s had in record { state = w.state; node = w.node; boot = w.boot; place = w.place; own = w.own; own_boot = w.own_boot; most = w.most; seen = w.seen };
      once = λ s n had. ⊎_elim (λ own. inl (ap (λ (c : Clerking). c.session) (clerks_same.each n) ∙ own)) (λ never. inr never) (f.had_are.once s n had);
      fresh = f.had_are.fresh;
    };
    states = f.states;
    booted = booted_rises past.told.chain past.told.handed past.told.boots (put_at (ServerOf id) boot past.told.boots) (λ n. omega arith) f.booted;
    knew_most = knew_at (last past.told.chain).index (ServerOf id) 0 past.told.knew (omega arith) f.knew_most;
    clerk = λ n. subst (λ (c : Clerking). FitsClerk past.told.chain (past.told.knew (Node n)) (past.told.boots (Node n)) g.side g.had g.promised n c) (sym (clerks_same.each n)) (f.clerk n);
    node = λ n inside. ap (λ (c : Clerking). c.node) (clerks_same.each n) ∙ f.node n inside;
    boot = λ n inside up. ap (λ (c : Clerking). c.boot) (clerks_same.each n) ∙ f.boot n inside up;
    server = λ j inside. ⊎_elim
        (λ is. ap (λ (k : ℕ). (others k).server) is.1 ∙ ap (λ (m : Mastering). m.server) (at (let e = is.1 in omega (arith, inside, e))) ∙ f.server id (let e = is.1 in omega (arith, inside, e)) ∙ sym is.1)
        (λ other. ap (λ (m : Mastering). m.server) (apart j other.1) ∙ f.server j inside)
        (eqb_tells j id);
    master = λ j inside up. ⊎_elim
        (λ is. let less : id < 2 = (let e = is.1 in omega (arith, inside, e)) in
        subst (λ (k : ℕ). Fit (put_at (ServerOf id) 0 past.told.knew (ServerOf k)) (put_at (ServerOf id) boot past.told.boots (ServerOf k)) k (others k)) (sym is.1)
        (subst (λ (b : ℕ). Fit (put_at (ServerOf id) 0 past.told.knew (ServerOf id)) b id (others id)) (sym (here (ServerOf id) boot past.told.boots))
        (subst (λ (m : Mastering). Fit (put_at (ServerOf id) 0 past.told.knew (ServerOf id)) boot id m) (sym (at less)) (started less))))
        (λ other. subst (λ (i : ℕ). Fit i (put_at (ServerOf id) boot past.told.boots (ServerOf j)) j (others j)) (sym (elsewhere (ServerOf id) (ServerOf j) 0 past.told.knew (other_server j id other.1)))
        (subst (λ (b : ℕ). Fit (past.told.knew (ServerOf j)) b j (others j)) (sym (elsewhere (ServerOf id) (ServerOf j) boot past.told.boots (other_server j id other.1)))
        (subst (λ (m : Mastering). Fit (past.told.knew (ServerOf j)) (past.told.boots (ServerOf j)) j m) (sym (apart j other.1))
        (f.master j inside (sym (elsewhere (ServerOf id) (ServerOf j) false past.told.down (other_server j id other.1)) ∙ up)))))
        (eqb_tells j id);
    before = λ ahead. ⊎_elim
        (λ is. f.before (let h = here (ServerOf id) boot past.told.boots in let e = ap (λ (k : ℕ). put_at (ServerOf id) boot past.told.boots (ServerOf k)) is.1 in let b = may.boot_rises in let k = ap (λ (x : ℕ). past.told.boots (ServerOf x)) is.1 in omega (arith, ahead, h, e, b, k)))
        (λ other. f.before (let e = elsewhere (ServerOf id) (ServerOf (last past.told.chain).master) boot past.told.boots (other_server (last past.told.chain).master id other.1) in omega (arith, ahead, e)))
        (eqb_tells (last past.told.chain).master id);
    letters = f.letters;
    words = f.words;
    promises = f.promises;
    leases = f.leases;
  };
}
  where
    g : Ghosts
    g = keeps.ghosts

    f : FitsPast nodes masters clerks past keeps.ghosts
    f = keeps.fits

    Fit : ℕ → ℕ → ℕ → Mastering → Type 0
    Fit i b j m = FitsMaster past.told.chain i b g.said g.side.drawn g.term g.noted j m

    started : id < 2 → Fit (put_at (ServerOf id) 0 past.told.knew (ServerOf id)) boot id (masters_of.restarted boot (masters id))
    started less = record {
      server = f.server id less;
      boot_is = refl;
      nothing = λ none. refl;
      index_fits = omega arith;
      accounts = tt;
      waits = tt;
      knows = λ t has. absurd (none_some t has);
      untied = λ master never. f.before (let e = ap (λ (k : ℕ). past.told.boots (ServerOf k)) master.server in let b = master.boot_is in let r = may.boot_rises in omega (arith, e, b, r));
    }
      where
        none_some : (t : ℕ) → None ≡ Some t → ⊥
        none_some t wrong = cc

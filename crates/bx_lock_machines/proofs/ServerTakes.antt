-- A lock server takes an input: all fits again.
use Rattle.std.proofs.Common.{◌≡◌, inl, inr, ⊎_elim, ℕ, ◌+◌, ◌<◌, ◌≤◌, Bool, true, false, List, [], ◌++◌, Contains, max, Option, Some, None, refl, sym, ◌∙◌, ap, subst, arith, append-nil}
use Rattle.std.specs.Prelude.{MatchOption, ltb, ◌==◌, ◌&&◌, not, if◌then◌else◌}
use Rattle.std.proofs.lemmas.Bool.Decides.{eqb_tells, nat_tests}
use Rattle.bx_base.specs.declared.names.Actor.TheVariants.{Server as ServerOf}
use Rattle.bx_global.specs.declared.change.Change.{Change}
use Rattle.bx_global.specs.declared.change.Change.TheVariants.{Renew}
use Rattle.bx_global.specs.declared.state.GlobalState.{GlobalState}
use Rattle.bx_rows.specs.Conditions.{Fits}
use Rattle.bx_post.specs.declared.packets.Letter.{Letter}
use Rattle.bx_post.specs.Posts.{letter_of}
use Rattle.bx_facts.specs.Chains.{HasOwnBoot, IsPlace, last, with_change}
use Rattle.bx_facts.specs.Holds.{OwnersPast, owners_heard, owners_with}
use Rattle.bx_facts.specs.Pasts.{MayTake}
use Rattle.bx_facts.specs.declared.input.Input.{Input}
use Rattle.bx_facts.specs.declared.input.Input.TheVariants.{Packet, Tick, Synced}
use Rattle.bx_lock_words.specs.Words.{Spells}
use Rattle.bx_lock_words.specs.declared.words.Word.{Word}
use Rattle.bx_locking.specs.Leases.{AreLeases}
use Rattle.bx_locking.specs.Tables.{Term}
use Rattle.bx_locking.specs.Words.{IsSaid}
use Rattle.bx_locking.proofs.Basics.{place_most}
use Rattle.bx_locking.proofs.Leases.{reads_on}
use Rattle.bx_locking.proofs.Terms.{next_most, term_most}
use Rattle.bx_lock_tables.specs.Queue.{still_waiting}
use Rattle.bx_master.specs.Events.{catch_up, change_of, expiry, first_past, hear, hear_as, marking, revokes_again, served, served_if, take_change, tick}
use Rattle.bx_master.specs.Masters.{Mastering, Served, both, is_master, learned, shows_close}
use Rattle.bx_master.specs.Steps.{SaysOr, Takes, letters_of}
use Rattle.bx_clerk.specs.Clerks.{Clerking}
use Rattle.bx_lock_machines.specs.Keeps.{AreSame, FitsPast, Ghosts, Keeps, PutsOne}
use Rattle.bx_lock_steps.specs.Machines.{FitsMaster, IsMaster, IsUntied}
use Rattle.bx_lock_steps.proofs.Accounts.{misses, passes, tested}
use Rattle.bx_lock_steps.proofs.Chains.{is_last_master, term_began}
use Rattle.bx_lock_steps.proofs.Hearing.{as_served, catches_up, hears, no_more, ticks}
use Rattle.bx_lock_steps.proofs.Knowing.{Learned, learns}
use Rattle.bx_lock_steps.proofs.Others.{master_waits}
use Rattle.bx_lock_steps.proofs.Proposing.{asks, hands_take, no_mark}
use Rattle.bx_lock_steps.proofs.Releasing.{both_true}
use Rattle.bx_lock_machines.proofs.Boots.{OpensNone, opens_nothing, server_opens}
use Rattle.bx_lock_machines.proofs.ServerEvents.{Outcome, outcome_keeps}
use Rattle.bx_lock_steps.proofs.Serving.{After, IsScene, Scene, Server, Spoken, late, tied}

-- what a server is handed
pub record IsHanded (past : OwnersPast) (id : ℕ) (known : GlobalState) : Type 0 where
  pub up : past.told.down (ServerOf id) ≡ false
  pub place : IsPlace past.told.chain known
  pub rises : past.told.knew (ServerOf id) ≤ known.index
  pub own_boot : HasOwnBoot past.told.chain (past.told.boots (ServerOf id))

is_master_so : (m : Mastering) (known : GlobalState) → is_master m known ≡ true → IsMaster known m.server m.boot
is_master_so m known is =
    let both = both_true (known.master == m.server) (known.master_boot == m.boot) is in
    let one = both.0 in let two = both.1 in record { server = grind (arith, nat_tests, one); boot_is = grind (arith, nat_tests, two) }

module _ (nodes : ℕ) (masters : ℕ → Mastering) (clerks : ℕ → Clerking) (p : OwnersPast) (g : Ghosts) (f : FitsPast nodes masters clerks p g) (id : ℕ) (less : id < 2) (known : GlobalState) (handed : IsHanded p id known)
    (greatest : ℕ) (greater : p.told.greatest ≤ greatest) where
  was : FitsMaster p.told.chain (p.told.knew (ServerOf id)) (p.told.boots (ServerOf id)) g.said g.side.drawn g.term g.noted id (masters id)
  was = f.master id less handed.up

  learned_it : Learned p.told.chain p.holding p.floor g.said g.side g.term g.noted id (p.told.boots (ServerOf id)) known (learned known (masters id))
  learned_it = learns p.told.chain p.holding p.floor g.said g.side g.term g.noted (p.told.knew (ServerOf id)) id (p.told.boots (ServerOf id)) (masters id) known f.locks was handed.place
      (let l = place_most p.told.chain known handed.place in let k = f.states.index_fits in omega (arith, l, k)) handed.rises handed.own_boot

  next_fits : Fits known.next_session
  next_fits = let l = next_most p.told.chain.first p.told.chain.changes known handed.place in let k = f.states.next_fits in omega (arith, l, k)

  -- ---- the event

  abbrev scene : List Change → Scene
  scene changes = record { chain = p.told.chain; holding = p.holding; floor = p.floor; greatest = greatest; handed = changes; side = g.side; ends = g.ends; known = known; was = learned known (masters id) }

  abbrev spoken : Learned p.told.chain p.holding p.floor g.said g.side g.term g.noted id (p.told.boots (ServerOf id)) known (learned known (masters id)) → Spoken
  spoken l = record { said = g.said; term = l.now; promised = g.promised; noted = g.noted }

  server_so : (l : Learned p.told.chain p.holding p.floor g.said g.side g.term g.noted id (p.told.boots (ServerOf id)) known (learned known (masters id))) → Server (scene p.told.handed) g.said (learned known (masters id))
  server_so l = record { server = refl; boot_is = refl; term = refl; seen = refl; index_fits = l.index_fits; accounts = l.accounts; noted = l.seen.noted; waits = l.waits }

  leases_so : (l : Learned p.told.chain p.holding p.floor g.said g.side g.term g.noted id (p.told.boots (ServerOf id)) known (learned known (masters id))) → AreLeases p.told.chain greatest p.told.handed g.promised g.noted g.ends l.now.expiring
  leases_so l = subst (λ (x : ℕ → Bool). AreLeases p.told.chain greatest p.told.handed g.promised g.noted g.ends x) (sym l.expiring)
      (reads_on p.told.chain p.told.greatest greatest p.told.handed g.promised g.noted g.ends g.term.expiring f.leases_are greater)

  -- nothing is done but that it learned
  idles : (l : Learned p.told.chain p.holding p.floor g.said g.side g.term g.noted id (p.told.boots (ServerOf id)) known (learned known (masters id))) (changes : List Change) → AreLeases p.told.chain greatest changes g.promised g.noted g.ends l.now.expiring
      → Outcome p g id known greatest changes (learned known (masters id)) []
  idles l changes leases = record {
    now = spoken l;
    locks = l.locks;
    leases = leases;
    promises = f.promises;
    words_fit = f.words;
    said_on = λ word has. has;
    promised_on = λ s e has. has;
    put_out = tt;
    master = record {
      server = l.server;
      boot_is = l.boot_is;
      nothing = λ none. absurd (none_some known.term (sym none ∙ l.seen.term));
      index_fits = l.index_fits;
      accounts = l.accounts;
      waits = l.waits;
      knows = λ t has. record { state = known; seen = l.seen; tied = l.tied };
      untied = λ master never. l.untied master (λ same. never (l.seen.term ∙ ap (λ (t : ℕ). Some t) same));
    };
    own = ⊎_elim (λ same. inl (same, refl)) (λ master. inr master) l.own;
  }
    where
      none_some : (t : ℕ) → None ≡ Some t → ⊥
      none_some t wrong = cc

  -- it is the master in what it knows
  is_scene : (changes : List Change) → IsMaster known id (p.told.boots (ServerOf id)) → IsScene (scene changes)
  is_scene changes master = record {
    place = handed.place;
    states = f.states;
    end_fits = let l = f.leases_are.term_ends known handed.place in let k = f.states.end_fits in omega (arith, l, k);
    began = λ of_last. term_began p.told.chain id (p.told.boots (ServerOf id)) (is_last_master p.told.chain known id (p.told.boots (ServerOf id)) handed.place of_last master) handed.own_boot;
  }

  begins_as : (l : Learned p.told.chain p.holding p.floor g.said g.side g.term g.noted id (p.told.boots (ServerOf id)) known (learned known (masters id))) → IsMaster known id (p.told.boots (ServerOf id)) → After (scene p.told.handed) (spoken l) (learned known (masters id)) []
  begins_as l master = record {
    now = spoken l;
    locks = l.locks;
    leases = leases_so l;
    stands = ⊎_elim
        (λ same. tied (l.tied (is_last_master p.told.chain known id (p.told.boots (ServerOf id)) handed.place same.1 master) same.1) same.1)
        (λ other. late (let m = term_most p.told.chain.first p.told.chain.changes known handed.place in let o = other.1 in omega (arith, m, o)) refl refl)
        (eqb_tells known.term (last p.told.chain).term);
    server = server_so l;
    promises = f.promises;
    words_fit = f.words;
    said_on = λ word has. has;
    promised_on = λ s e has. has;
    put_out = tt;
  }

  outcome_after : (l : Learned p.told.chain p.holding p.floor g.said g.side g.term g.noted id (p.told.boots (ServerOf id)) known (learned known (masters id))) (changes : List Change) (new : Mastering) (words : List Word) → IsMaster known id (p.told.boots (ServerOf id))
      → After (scene changes) (spoken l) new words → Outcome p g id known greatest changes new words
  outcome_after l changes new words master a = record {
    now = a.now;
    locks = a.locks;
    leases = a.leases;
    promises = a.promises;
    words_fit = a.words_fit;
    said_on = a.said_on;
    promised_on = a.promised_on;
    put_out = a.put_out;
    master = record {
      server = a.server.server ∙ l.server;
      boot_is = a.server.boot_is ∙ l.boot_is;
      nothing = λ none. absurd (none_some known.term (sym none ∙ a.server.term ∙ l.seen.term));
      index_fits = a.server.index_fits;
      accounts = a.server.accounts;
      waits = a.server.waits;
      knows = λ t has. record {
        state = known;
        seen = record { place = handed.place; index = omega arith; term = a.server.term ∙ l.seen.term; seen = a.server.seen ∙ l.seen.seen; noted = a.server.noted };
        tied = λ is_last of_last. elim a.stands [
          | tied is same ↦ is
          | late before same same_noted ↦ absurd (omega (arith, before, of_last))
        ];
      };
      untied = λ is_last never. elim a.stands [
        | tied is same ↦ absurd (never (a.server.term ∙ l.seen.term ∙ ap (λ (t : ℕ). Some t) same))
        | late before same same_noted ↦
            subst (λ (t : Term). IsUntied p.told.chain t a.now.noted) (sym same) (subst (λ (n : ℕ → ℕ). IsUntied p.told.chain l.now n) (sym same_noted) (l.untied is_last (λ of_last. omega (arith, before, of_last))))
      ];
    };
    own = elim a.stands [
      | tied is of_last ↦ inr (is_last_master p.told.chain known id (p.told.boots (ServerOf id)) handed.place of_last master)
      | late before same same_noted ↦ ⊎_elim (λ kept. inl (same ∙ kept, same_noted)) (λ is_last. inr is_last) l.own
    ];
  }
    where
      none_some : (t : ℕ) → None ≡ Some t → ⊥
      none_some t wrong = cc

  known_master : is_master (learned known (masters id)) known ≡ true → IsMaster known id (p.told.boots (ServerOf id))
  known_master is = let k = is_master_so (learned known (masters id)) known is in record { server = k.server ∙ learned_it.server; boot_is = k.boot_is ∙ learned_it.boot_is }

  -- it is so after some steps, too
  still_master : (l : Learned p.told.chain p.holding p.floor g.said g.side g.term g.noted id (p.told.boots (ServerOf id)) known (learned known (masters id))) (new : Mastering) (words : List Word) → After (scene p.told.handed) (spoken l) new words
      → is_master (learned known (masters id)) known ≡ true → is_master new known ≡ true
  still_master l new words a is =
      ap (λ (s : ℕ). (known.master == s) && (known.master_boot == new.boot)) a.server.server ∙ ap (λ (b : ℕ). (known.master == (learned known (masters id)).server) && (known.master_boot == b)) a.server.boot_is ∙ is

  caught_up : (reading : ℕ) (l : Learned p.told.chain p.holding p.floor g.said g.side g.term g.noted id (p.told.boots (ServerOf id)) known (learned known (masters id))) → IsMaster known id (p.told.boots (ServerOf id))
      → After (scene p.told.handed) (spoken l) (catch_up known reading (masters id)).0 (catch_up known reading (masters id)).1
  caught_up reading l master = catches_up (scene p.told.handed) (is_scene p.told.handed master) (spoken l) reading (shows_close (masters id).seen known) (learned known (masters id)) [] (begins_as l master)

  -- it isn't: then nothing more is done
  none_served : (reading : ℕ) → is_master (learned known (masters id)) known ≡ false → catch_up known reading (masters id) ≡ (learned known (masters id), [])
  none_served reading is_not = by_test (shows_close (masters id).seen known)
    where
      by_test : (b : Bool) → served_if b known reading (learned known (masters id)) ≡ (learned known (masters id), [])
      by_test true = ap (λ (b : Bool). if b then served known reading None (learned known (masters id)) else (learned known (masters id), [])) is_not
      by_test false = refl

  -- ---- a packet

  none_heard : (reading : ℕ) (said : Option Word) (m : Mastering) → is_master m known ≡ false → hear_as known reading said m ≡ (m, [])
  none_heard reading None m is_not = refl
  none_heard reading (Some word) m is_not = ap (λ (b : Bool). if b then hear known reading word m else (m, [])) is_not

  heard_as : (reading : ℕ) (l : Learned p.told.chain p.holding p.floor g.said g.side g.term g.noted id (p.told.boots (ServerOf id)) known (learned known (masters id))) (said : Option Word) (m : Mastering) (words : List Word) → MatchOption said (Unit {0}) (λ word. IsSaid g.said word)
      → IsMaster known id (p.told.boots (ServerOf id)) → After (scene p.told.handed) (spoken l) m words → is_master m known ≡ true → After (scene p.told.handed) (spoken l) (hear_as known reading said m).0 (words ++ (hear_as known reading said m).1)
  heard_as reading l None m words has master a is = no_more (scene p.told.handed) (spoken l) m words a
  heard_as reading l (Some word) m words has master a is =
      as_served (scene p.told.handed) (spoken l) words (hear_as known reading (Some word) m) (hear known reading word m) (ap (λ (b : Bool). if b then hear known reading word m else (m, [])) is)
      (hears (scene p.told.handed) (is_scene p.told.handed master) (spoken l) reading m words word a next_fits (a.said_on word has))

  pub hears_packet : (reading : ℕ) (said : Option Word) → MatchOption said (Unit {0}) (λ word. IsSaid g.said word)
      → Outcome p g id known greatest p.told.handed (both (catch_up known reading) (hear_as known reading said) (masters id)).0 (both (catch_up known reading) (hear_as known reading said) (masters id)).1
  hears_packet reading said has = elim (tested (is_master (learned known (masters id)) known)) [
    | passes is ↦
        let l = learned_it in
        let master = known_master is in
        let c = caught_up reading l master in
        outcome_after l p.told.handed (both (catch_up known reading) (hear_as known reading said) (masters id)).0 (both (catch_up known reading) (hear_as known reading said) (masters id)).1 master
        (heard_as reading l said (catch_up known reading (masters id)).0 (catch_up known reading (masters id)).1 has master c (still_master l (catch_up known reading (masters id)).0 (catch_up known reading (masters id)).1 c is))
    | misses is_not ↦
        let l = learned_it in
        subst (λ (s : Served). Outcome p g id known greatest p.told.handed s.0 s.1)
        (sym (ap (λ (s : Served). ((hear_as known reading said s.0).0, s.1 ++ (hear_as known reading said s.0).1)) (none_served reading is_not) ∙ ap (λ (s : Served). (s.0, [] ++ s.1)) (none_heard reading said (learned known (masters id)) is_not)))
        (idles l p.told.handed (leases_so l))
  ]

  -- ---- a tick

  abbrev ticked : ℕ → Served
  ticked reading = both (catch_up known reading) (tick known) (masters id)

  no_tick : (m : Mastering) → is_master m known ≡ false → tick known m ≡ (m, [])
  no_tick m is_not = ap (λ (b : Bool). if b then (record m { waiting = still_waiting known m.waiting }, revokes_again known m.accounts (still_waiting known m.waiting)) else (m, [])) is_not

  none_ticked : (reading : ℕ) → is_master (learned known (masters id)) known ≡ false → ticked reading ≡ (learned known (masters id), [])
  none_ticked reading is_not =
      ap (λ (s : Served). ((tick known s.0).0, s.1 ++ (tick known s.0).1)) (none_served reading is_not)
      ∙ ap (λ (s : Served). (s.0, [] ++ s.1)) (no_tick (learned known (masters id)) is_not)

  not_asked : (reading : ℕ) (m : Mastering) → is_master m known ≡ false → change_of known reading m ≡ take_change known reading m
  not_asked reading m is_not = ap (λ (b : Bool). if not b then take_change known reading m
      else if not (ltb known.term_end reading) && ltb known.term_end (reading + 4000) then Some (Renew m.server m.boot reading) else expiry known reading m (first_past known reading m known.sessions)) is_not

  pub hears_tick : (reading : ℕ) → reading ≤ greatest
      → Outcome p g id known greatest (with_change (change_of known reading (ticked reading).0) p.told.handed) (marking (change_of known reading (ticked reading).0) (ticked reading).0) (ticked reading).1
  hears_tick reading most = elim (tested (is_master (learned known (masters id)) known)) [
    | passes is ↦
        let l = learned_it in
        let master = known_master is in
        let c = caught_up reading l master in
        let c_master = still_master l (catch_up known reading (masters id)).0 (catch_up known reading (masters id)).1 c is in
        let t = ticks (scene p.told.handed) (is_scene p.told.handed master) (spoken l) (catch_up known reading (masters id)).0 (catch_up known reading (masters id)).1 c next_fits c_master in
        outcome_after l (with_change (change_of known reading (ticked reading).0) p.told.handed) (marking (change_of known reading (ticked reading).0) (ticked reading).0) (ticked reading).1 master
        (asks (scene p.told.handed) (is_scene p.told.handed master) (spoken l) (ticked reading).0 (ticked reading).1 t reading most (still_master l (ticked reading).0 (ticked reading).1 t is))
    | misses is_not ↦
        let l = learned_it in
        subst (λ (s : Served). Outcome p g id known greatest (with_change (change_of known reading s.0) p.told.handed) (marking (change_of known reading s.0) s.0) s.1) (sym (none_ticked reading is_not))
        (subst (λ (c : Option Change). Outcome p g id known greatest (with_change c p.told.handed) (marking c (learned known (masters id))) []) (sym (not_asked reading (learned known (masters id)) is_not))
        (subst (λ (m : Mastering). Outcome p g id known greatest (with_change (take_change known reading (learned known (masters id))) p.told.handed) m []) (sym (no_mark known reading (learned known (masters id))))
        (idles l (with_change (take_change known reading (learned known (masters id))) p.told.handed)
        (hands_take p.told.chain greatest p.told.handed g.promised g.noted g.ends l.now.expiring known reading (learned known (masters id)) (leases_so l) most))))
  ]

-- ---- all of it

handed_so : (past : OwnersPast) (before : List Letter) (id : ℕ) (known : GlobalState) (input : Input) → MayTake (owners_with past before).told known (ServerOf id) input → IsHanded (owners_with past before) id known
handed_so past before id known input may = record { up = may.up; place = may.place; rises = may.rises; own_boot = may.own_boot }

-- what a packet says was said
pub was_said : (said : List Word) (letters : List Letter) (letter : Letter) (word : Option Word) → ((l : Letter) (w : Word) → Contains letters l → Spells w l.kind l.body → IsSaid said w) → Contains letters letter → SaysOr letter.kind letter.body word
    → MatchOption word (Unit {0}) (λ w. IsSaid said w)
was_said said letters letter None each has says = tt
was_said said letters letter (Some word) each has says = each letter word has says

pub server_takes : (nodes : ℕ) (masters others : ℕ → Mastering) (clerks same_clerks : ℕ → Clerking) (past : OwnersPast) (before after : List Letter) (id : ℕ) (known : GlobalState) (input : Input) (change : Option Change) (new : Mastering)
    → Keeps nodes masters clerks (owners_with past before) → MayTake (owners_with past before).told known (ServerOf id) input → id < 2 → Takes (masters id) known input new change before after
    → PutsOne id new masters others → AreSame clerks same_clerks → Keeps nodes others same_clerks (owners_with (owners_heard past (ServerOf id) known.index input change) after)
server_takes nodes masters others clerks same_clerks past before after id known (Packet packet reading) change new keeps may less takes puts same =
    let f = keeps.fits in
    let g = keeps.ghosts in
    let h = takes.0 in
    let o = hears_packet nodes masters clerks (owners_with past before) g f id less known (handed_so past before id known (Packet packet reading) may) (max past.told.greatest reading) (omega arith) reading h.said
    (was_said g.said (past.told.letters ++ before) (letter_of packet.now) h.said f.letters may.comes h.says) in
    outcome_keeps nodes masters others clerks same_clerks past before after id known keeps same (Packet packet reading) change new (both (catch_up known reading) (hear_as known reading h.said) (masters id)).1
    (subst (λ (c : Option Change). Outcome (owners_with past before) g id known (max past.told.greatest reading) (with_change c past.told.handed) new (both (catch_up known reading) (hear_as known reading h.said) (masters id)).1) (sym takes.1)
    (subst (λ (m : Mastering). Outcome (owners_with past before) g id known (max past.told.greatest reading) past.told.handed m (both (catch_up known reading) (hear_as known reading h.said) (masters id)).1) (sym h.is) o))
    may.place (subst OpensNone (sym takes.1) opens_nothing) puts
    (h.sends ∙ ap (λ (n : ℕ). before ++ letters_of n known (both (catch_up known reading) (hear_as known reading h.said) (masters id)).1) (f.master id less may.up).server)
server_takes nodes masters others clerks same_clerks past before after id known (Tick reading) change new keeps may less takes puts same =
    let f = keeps.fits in
    let g = keeps.ghosts in
    let o = hears_tick nodes masters clerks (owners_with past before) g f id less known (handed_so past before id known (Tick reading) may) (max past.told.greatest reading) (omega arith) reading (omega arith) in
    outcome_keeps nodes masters others clerks same_clerks past before after id known keeps same (Tick reading) change new (both (catch_up known reading) (tick known) (masters id)).1
    (subst (λ (m : Mastering). Outcome (owners_with past before) g id known (max past.told.greatest reading) (with_change change past.told.handed) m (both (catch_up known reading) (tick known) (masters id)).1) (sym takes.is)
    (subst (λ (c : Option Change). Outcome (owners_with past before) g id known (max past.told.greatest reading) (with_change c past.told.handed) (marking c (both (catch_up known reading) (tick known) (masters id)).0) (both (catch_up known reading) (tick known) (masters id)).1) (sym takes.asks) o))
    may.place (subst OpensNone (sym takes.asks) (server_opens known reading (both (catch_up known reading) (tick known) (masters id)).0)) puts
    (takes.sends ∙ ap (λ (n : ℕ). before ++ letters_of n known (both (catch_up known reading) (tick known) (masters id)).1) (f.master id less may.up).server)
server_takes nodes masters others clerks same_clerks past before after id known Synced change new keeps may less takes puts same =
    let f = keeps.fits in
    let g = keeps.ghosts in
    outcome_keeps nodes masters others clerks same_clerks past before after id known keeps same Synced change new []
    (subst (λ (c : Option Change). Outcome (owners_with past before) g id known past.told.greatest (with_change c past.told.handed) new []) (sym takes.1)
    (subst (λ (m : Mastering). Outcome (owners_with past before) g id known past.told.greatest past.told.handed m []) (sym takes.0) (record {
      now = record { said = g.said; term = g.term; promised = g.promised; noted = g.noted };
      locks = f.locks;
      leases = f.leases_are;
      promises = f.promises;
      words_fit = f.words;
      said_on = λ word has. has;
      promised_on = λ s e has. has;
      put_out = tt;
      master = master_waits past.told.chain (past.told.knew (ServerOf id)) known.index (past.told.boots (ServerOf id)) g.said g.side.drawn g.term g.noted id (masters id) may.rises (f.master id less may.up);
      own = inl (refl, refl);
    })))
    may.place (subst OpensNone (sym takes.1) opens_nothing) puts (takes.2 ∙ sym (append-nil before))

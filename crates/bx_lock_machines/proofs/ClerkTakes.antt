-- A clerk takes an input: all fits again.
use Rattle.std.proofs.Common.{◌≡◌, ◌≢◌, ⊎_elim, ℕ, ◌+◌, ◌<◌, ◌≤◌, Bool, true, false, List, [], ◌∷◌, ◌++◌, max, Option, Some, None, refl, sym, ◌∙◌, ap, subst, arith, append-nil}
use Rattle.std.specs.Prelude.{ltb, ◌==◌, ◌&&◌, not, if◌then◌else◌}
use Rattle.std.specs.List.{AllByRecursion, cons_option}
use Rattle.std.proofs.lemmas.Bool.Decides.{eqb_tells, leb_tells, nat_tests}
use Rattle.bx_base.specs.declared.names.Actor.TheVariants.{Node}
use Rattle.bx_global.specs.declared.change.Change.{Change}
use Rattle.bx_global.specs.declared.state.GlobalState.{GlobalState}
use Rattle.bx_rows.specs.Conditions.{Fits}
use Rattle.bx_post.specs.declared.packets.Letter.{Letter}
use Rattle.bx_post.specs.Posts.{letter_of}
use Rattle.bx_facts.specs.Chains.{LivesIn, last, oldest, with_change}
use Rattle.bx_facts.specs.Holds.{Hold, Holding, Holds, KeepsHolds, OwnersPast, owners_heard, owners_with, without_block}
use Rattle.bx_facts.specs.Inputs.{greatest_with}
use Rattle.bx_facts.specs.Pasts.{MayTake}
use Rattle.bx_facts.specs.declared.input.Input.{Input}
use Rattle.bx_facts.specs.declared.input.Input.TheVariants.{Packet, Tick, Synced}
use Rattle.bx_lock_words.specs.Sessions.{session_in}
use Rattle.bx_lock_words.specs.Words.{IsWord, Spells}
use Rattle.bx_lock_words.specs.declared.words.Grant.{Grant}
use Rattle.bx_lock_words.specs.declared.words.Revoke.{Revoke}
use Rattle.bx_lock_words.specs.declared.words.Want.{Want}
use Rattle.bx_lock_words.specs.declared.words.Word.{Word}
use Rattle.bx_lock_words.specs.declared.words.Word.TheVariants.{Wants, Grants, Revokes, Releases, Renews, Leases}
use Rattle.bx_locking.specs.Leases.{AreLeases, IsPromised}
use Rattle.bx_locking.specs.Tables.{AreLocks, Side, hold_from}
use Rattle.bx_locking.specs.Words.{IsSaid}
use Rattle.bx_locking.proofs.Basics.{now_said, same_or, said_or, still_said}
use Rattle.bx_locking.proofs.Late.{renews_say_little, says_little}
use Rattle.bx_locking.proofs.Leases as ends
use Rattle.bx_locking.proofs.Leases.{reads_on}
use Rattle.bx_master.specs.Masters.{Mastering}
use Rattle.bx_clerk.specs.Clerks.{Clerking, Said, is_same, learned, letters_of}
use Rattle.bx_clerk.specs.Events.{Hears, SaysOr, Takes, answer_of, granted, hear, hear_own, hear_revoke, takes, tick_change, tick_words, want_as, wants_again}
use Rattle.bx_clerk.specs.Requests.{Requests, fits, is_at, is_held, request_in, with_ask}
use Rattle.bx_clerk.specs.declared.requests.Asking.{Asking}
use Rattle.bx_lock_machines.specs.Keeps.{AreSame, FitsPast, Ghosts, Keeps, PutsOne}
use Rattle.bx_lock_steps.specs.Machines.{FitsClerk, request_from}
use Rattle.bx_lock_steps.proofs.Accounts.{misses, passes, tested}
use Rattle.bx_lock_machines.proofs.Alike.{alike}
use Rattle.bx_lock_machines.proofs.ClerkEvents.{Outcome, outcome_keeps, own_fits}
use Rattle.bx_lock_machines.proofs.Boots.{OpensOwn, booted_asks, clerk_opens, learned_stays, opens_nothing}
use Rattle.bx_lock_machines.proofs.ClerkLearns.{clerk_learns}
use Rattle.bx_lock_steps.proofs.Clerks.{KeepsSides}
use Rattle.bx_lock_steps.proofs.Functions.{one_at, one_not, one_of, spot_puts}
use Rattle.bx_lock_steps.proofs.Others.{same_drawn}
use Rattle.bx_lock_steps.proofs.Proposing.{hands_open}
use Rattle.bx_lock_steps.proofs.Releasing.{both_true, not_true}
use Rattle.bx_lock_steps.proofs.Requests.{each_found}
use Rattle.bx_lock_steps.proofs.Taking.{answers_on, answer_now, asks_again, dropping, drops_on, holds_now, side_taking, takes_on, taking}
use Rattle.bx_lock_steps.proofs.Wanting.{side_ending}

-- ---- tests of requests

fits_so : (o : Option Asking) (number : ℕ) → fits o number ≡ true → (r : Asking) × (o ≡ Some r) × (r.number ≡ number)
fits_so None number is = absurd cc
fits_so (Some r) number is = (r, refl, (let e : r.number ≡ number = grind (arith, nat_tests, is) in e))

fits_not : (o : Option Asking) (number : ℕ) → fits o number ≡ false → (r : Asking) → o ≡ Some r → r.number ≢ number
fits_not None number is r there same = absurd cc
fits_not (Some q) number is r there same =
    let e : q ≡ r = cc in
    let n = ap (λ (x : Asking). x.number) e in
    let k : (number == number) ≡ true = grind (arith, nat_tests) in
    let l : true ≡ false = sym k ∙ ap (λ (x : ℕ). x == number) (sym (n ∙ same)) ∙ is in absurd cc

out_so : (o : Option Asking) (r : Asking) → o ≡ Some r → is_held o ≡ false → r.held ≡ None
out_so o r there is = by_index r.held refl
  where
    by_index : (i : Option ℕ) → r.held ≡ i → r.held ≡ None
    by_index None none = none
    by_index (Some k) some = let e : true ≡ false = sym (ap is_held there ∙ ap is_at some) ∙ is in absurd cc

pub is_own : (o : Option ℕ) (s : ℕ) → is_same o (Some s) ≡ true → o ≡ Some s
is_own None s is = absurd cc
is_own (Some t) s is = ap (λ (k : ℕ). Some k) (let e : t ≡ s = grind (arith, nat_tests, is) in e)

-- ---- nothing, or the end alone, is changed

module _ (nodes : ℕ) (masters : ℕ → Mastering) (clerks : ℕ → Clerking) (p : OwnersPast) (g : Ghosts) (f : FitsPast nodes masters clerks p g) (n s : ℕ) (own : (clerks n).session ≡ Some s) where
  -- what is said and asked for stays
  unchanged : (new : Clerking) → FitsClerk p.told.chain (p.told.knew (Node n)) (p.told.boots (Node n)) g.side g.had g.promised n new → new.node ≡ (clerks n).node → new.boot ≡ (clerks n).boot → new.session ≡ (clerks n).session
      → Outcome p g n s (clerks n) new p.holding p.floor []
  unchanged new is node boot session = record {
    said = g.said;
    side = g.side;
    locks = f.locks;
    clerk = is;
    sides = record { requests = λ t b differ. refl; drawn = λ t differ. refl; given = λ t differ. refl };
    rises = same_drawn g.side.drawn;
    said_on = λ word has. has;
    words_fit = f.words;
    promises = f.promises;
    put_out = tt;
    node = node;
    boot = boot;
    session = session;
  }

  -- a clerk with another end, or other blocks asked back
  clerk_like : (end : ℕ) (asks : List (ℕ × ℕ)) → IsPromised g.promised s end → FitsClerk p.told.chain (p.told.knew (Node n)) (p.told.boots (Node n)) g.side g.had g.promised n (record (clerks n) { lease = end; asks = asks })
  clerk_like end asks promised = let c = f.clerk n in record {
    unique = c.unique;
    none = c.none;
    session = c.session;
    this_life = c.this_life;
    had_is = c.had_is;
    requests = c.requests;
    drawn = c.drawn;
    given = c.given;
    lease = λ t has. let e : Some t ≡ Some s = sym has ∙ own in let one : s ≡ t = cc in subst (λ (k : ℕ). IsPromised g.promised k end) one promised;
    blocks = c.blocks;
    drawn_fits = c.drawn_fits;
    given_fits = c.given_fits;
    knows_fits = c.knows_fits;
  }

  greater : (a b : ℕ) → IsPromised g.promised s a → IsPromised g.promised s b → IsPromised g.promised s (max a b)
  greater a b one two = ⊎_elim
      (λ most. let m = most.1 in subst (λ (e : ℕ). IsPromised g.promised s e) (let e : b ≡ max a b = omega (arith, m) in e) two)
      (λ few. let l = few.1 in subst (λ (e : ℕ). IsPromised g.promised s e) (let e : a ≡ max a b = omega (arith, l) in e) one)
      (leb_tells a b)

  -- ---- it hears

  -- after an input: what is held now, and the rest
  record Heard (new : Clerking) (words : List Word) : Type 0 where
    pub holding : Holds
    pub may : KeepsHolds p.holding holding
    pub outcome : Outcome p g n s (clerks n) new holding p.floor words

  heard_same : (new : Clerking) (words : List Word) → Outcome p g n s (clerks n) new p.holding p.floor words → Heard new words
  heard_same new words o = record { holding = p.holding; may = record { each = λ t b h holds. holds }; outcome = o }

  nothing_heard : Heard (clerks n) []
  nothing_heard = heard_same (clerks n) [] (unchanged (clerks n) (f.clerk n) refl refl refl)

  -- a grant
  hears_grant : (reading : ℕ) (gr : Grant) → p.told.greatest ≤ reading + 500 → gr.session ≡ s → IsSaid g.said (Grants gr) → Heard (granted reading gr (clerks n)) []
  hears_grant reading gr steady same has = elim (tested (takes reading (clerks n) gr)) [
    | passes is ↦ subst (λ (c : Clerking). Heard c []) (sym (ap (λ (b : Bool). if b then taking gr (clerks n) else clerks n) is)) (taken is)
    | misses is_not ↦ subst (λ (c : Clerking). Heard c []) (sym (ap (λ (b : Bool). if b then taking gr (clerks n) else clerks n) is_not)) nothing_heard
  ]
    where
      taken : takes reading (clerks n) gr ≡ true → Heard (taking gr (clerks n)) []
      taken is =
          let outer = both_true (fits (request_in (clerks n).requests gr.block) gr.number && not (is_held (request_in (clerks n).requests gr.block))) (not (ltb (clerks n).lease reading)) is in
          let inner = both_true (fits (request_in (clerks n).requests gr.block) gr.number) (not (is_held (request_in (clerks n).requests gr.block))) outer.0 in
          let r = fits_so (request_in (clerks n).requests gr.block) gr.number inner.0 in
          let out = out_so (request_in (clerks n).requests gr.block) r.0 r.1 (not_true (is_held (request_in (clerks n).requests gr.block)) inner.1) in
          let late = not_true (ltb (clerks n).lease reading) outer.1 in
          let last_long : reading ≤ (clerks n).lease = grind (arith, nat_tests, late) in
          let alive = ends.lives p.told.chain p.told.greatest p.told.handed g.promised g.noted g.ends g.term.expiring s (clerks n).lease f.leases_are ((f.clerk n).lease s own) (omega (arith, steady, last_long)) in
          let has_own : (clerks n).session ≡ Some gr.session = own ∙ ap (λ (k : ℕ). Some k) (sym same) in
          let t = takes_on p.told.chain p.holding p.floor g.said g.side g.term (p.told.knew (Node n)) (p.told.boots (Node n)) g.had g.promised n (clerks n) gr r.0 f.locks (f.clerk n) has_own has (subst (λ (k : ℕ). LivesIn (last p.told.chain) k) (sym same) alive) r.1 r.2 out in
          let not_held : p.holding gr.session gr.block ≡ None = f.locks.held.is gr.session gr.block ∙ ap hold_from ((f.clerk n).requests gr.session has_own gr.block ∙ ap request_from r.1)
          ∙ ap (λ (h : Option ℕ). hold_from (Some (record { mode = r.0.mode; number = r.0.number; held = h }))) out in
          record {
            holding = holds_now p.holding (clerks n) gr;
            may = record {
              each = λ u b h holds. ⊎_elim
                  (λ is_here. absurd (none_some h (sym not_held ∙ ap (λ (k : ℕ). p.holding k gr.block) (sym is_here.0) ∙ ap (λ (k : ℕ). p.holding u k) (sym is_here.1) ∙ holds)))
                  (λ other. (spot_puts gr.session gr.block (Some (gr.mode, max gr.index (clerks n).given)) p.holding).others u b other ∙ holds)
                  (same_or u gr.session b gr.block);
            };
            outcome = record {
              said = g.said;
              side = side_taking g.side (clerks n) gr;
              locks = t.locks;
              clerk = t.clerk;
              sides = subst (λ (k : ℕ). KeepsSides k g.side (side_taking g.side (clerks n) gr)) same t.keeps;
              rises = same_drawn g.side.drawn;
              said_on = λ word said. said;
              words_fit = f.words;
              promises = f.promises;
              put_out = tt;
              node = refl;
              boot = refl;
              session = refl;
            };
          }
        where
          none_some : (h : Hold) → None ≡ Some h → ⊥
          none_some h wrong = cc

  -- a revoke
  answer_fits : (v : Revoke) → IsSaid g.said (Revokes v) → IsWord (Releases (answer_now (clerks n) v))
  answer_fits v has = let w = f.words (Revokes v) has in let a = (f.clerk n).knows_fits in let b = (f.clerk n).given_fits in (w.0, w.1, w.2, omega (arith, a, b))

  answered : (v : Revoke) (new : Clerking) (side : Side) → IsSaid g.said (Revokes v) → AreLocks p.told.chain p.holding p.floor (Releases (answer_now (clerks n) v) ∷ g.said) side g.term
      → FitsClerk p.told.chain (p.told.knew (Node n)) (p.told.boots (Node n)) side g.had g.promised n new → KeepsSides s g.side side → side.drawn ≡ g.side.drawn → new.node ≡ (clerks n).node → new.boot ≡ (clerks n).boot → new.session ≡ (clerks n).session
      → Heard new (answer_of (clerks n) v ∷ [])
  answered v new side has locks is sides drawn node boot session = heard_same new (answer_of (clerks n) v ∷ []) (record {
    said = Releases (answer_now (clerks n) v) ∷ g.said;
    side = side;
    locks = locks;
    clerk = is;
    sides = sides;
    rises = record { each = λ t. let e = ap (λ (d : ℕ → ℕ). d t) drawn in omega (arith, e) };
    said_on = λ word old. still_said g.said word (Releases (answer_now (clerks n) v)) old;
    words_fit = λ word said. ⊎_elim (λ newest. subst IsWord (sym newest) (answer_fits v has)) (λ old. f.words word old) (said_or g.said word (Releases (answer_now (clerks n) v)) said);
    promises = λ t e said. ⊎_elim (λ newest. absurd cc) (λ old. f.promises t e old) (said_or g.said (Leases t e) (Releases (answer_now (clerks n) v)) said);
    put_out = (now_said g.said (Releases (answer_now (clerks n) v)), tt);
    node = node;
    boot = boot;
    session = session;
  })

  hears_revoke : (v : Revoke) → v.session ≡ s → IsSaid g.said (Revokes v) → Heard (hear_revoke v (clerks n)).0 (hear_revoke v (clerks n)).1
  hears_revoke v same has =
      let P : Bool → Bool → Type 0 = λ b h.
      let r : Said = (if not b then (clerks n, answer_of (clerks n) v ∷ []) else if h then (record (clerks n) { asks = with_ask (v.block, v.asking) (clerks n).asks }, [])
      else (dropping v.block (clerks n) (without_block v.block (clerks n).asks), answer_of (clerks n) v ∷ [])) in Heard r.0 r.1 in
      let F : Bool = fits (request_in (clerks n).requests v.block) v.number in
      let H : Bool = is_held (request_in (clerks n).requests v.block) in
      let has_own : (clerks n).session ≡ Some v.session = own ∙ ap (λ (k : ℕ). Some k) (sym same) in
      elim (tested F) [
        | passes fitting ↦ subst (λ (b : Bool). P b H) (sym fitting) (elim (tested H) [
          | passes held ↦ subst (P true) (sym held) (heard_same (record (clerks n) { asks = with_ask (v.block, v.asking) (clerks n).asks }) []
              (unchanged (record (clerks n) { asks = with_ask (v.block, v.asking) (clerks n).asks }) (clerk_like (clerks n).lease (with_ask (v.block, v.asking) (clerks n).asks) ((f.clerk n).lease s own)) refl refl refl))
          | misses out ↦ subst (P true) (sym out)
              (let r = fits_so (request_in (clerks n).requests v.block) v.number fitting in
              let d = drops_on p.told.chain p.holding p.floor g.said g.side g.term (p.told.knew (Node n)) (p.told.boots (Node n)) g.had g.promised n (clerks n) v (without_block v.block (clerks n).asks) r.0 f.locks (f.clerk n) has_own has r.1
              (out_so (request_in (clerks n).requests v.block) r.0 r.1 out) in
              answered v (dropping v.block (clerks n) (without_block v.block (clerks n).asks)) (side_ending g.side v.session v.block) has d.locks d.clerk (subst (λ (k : ℕ). KeepsSides k g.side (side_ending g.side v.session v.block)) same d.keeps) refl refl refl refl)
        ])
        | misses not_fitting ↦ subst (λ (b : Bool). P b H) (sym not_fitting)
            (answered v (clerks n) g.side has
            (answers_on p.told.chain p.holding p.floor g.said g.side g.term (p.told.knew (Node n)) (p.told.boots (Node n)) g.had g.promised n (clerks n) v f.locks (f.clerk n) has_own has (fits_not (request_in (clerks n).requests v.block) v.number not_fitting))
            (f.clerk n) (record { requests = λ t b differ. refl; drawn = λ t differ. refl; given = λ t differ. refl }) refl refl refl refl)
      ]

  -- a word of its session
  hears_own : (reading : ℕ) (word : Word) → p.told.greatest ≤ reading + 500 → session_in word ≡ s → IsSaid g.said word → Heard (hear_own reading word (clerks n)).0 (hear_own reading word (clerks n)).1
  hears_own reading (Wants w) steady same has = nothing_heard
  hears_own reading (Grants gr) steady same has = hears_grant reading gr steady same has
  hears_own reading (Revokes v) steady same has = hears_revoke v same has
  hears_own reading (Releases l) steady same has = nothing_heard
  hears_own reading (Renews t) steady same has = nothing_heard
  hears_own reading (Leases t u) steady same has = heard_same (record (clerks n) { lease = max (clerks n).lease u }) []
      (unchanged (record (clerks n) { lease = max (clerks n).lease u })
      (clerk_like (max (clerks n).lease u) (clerks n).asks (greater (clerks n).lease u ((f.clerk n).lease s own) (subst (λ (k : ℕ). IsPromised g.promised k u) same (f.promises t u has)))) refl refl refl)

  -- ---- it ticks

  -- the requests that are out are said again
  record Again (words : List Word) : Type 0 where
    pub said : List Word
    pub locks : AreLocks p.told.chain p.holding p.floor said g.side g.term
    pub said_on : (word : Word) → IsSaid g.said word → IsSaid said word
    pub words_fit : (word : Word) → IsSaid said word → IsWord word
    pub promises : (t e : ℕ) → IsSaid said (Leases t e) → IsPromised g.promised t e
    pub put_out : AllByRecursion (λ (word : Word). IsSaid said word) words

  more_said : (words : List Word) (word : Word) (a : Again words) → AreLocks p.told.chain p.holding p.floor (word ∷ a.said) g.side g.term → IsWord word → ((t e : ℕ) → Leases t e ≢ word) → Again (word ∷ words)
  more_said words word a locks fit no_lease = record {
    said = word ∷ a.said;
    locks = locks;
    said_on = λ other has. still_said a.said other word (a.said_on other has);
    words_fit = λ other has. ⊎_elim (λ newest. subst IsWord (sym newest) fit) (λ old. a.words_fit other old) (said_or a.said other word has);
    promises = λ t e has. ⊎_elim (λ newest. absurd (no_lease t e newest)) (λ old. a.promises t e old) (said_or a.said (Leases t e) word has);
    put_out = (now_said a.said word, all_still (λ (one : Word). IsSaid a.said one) (λ (one : Word). IsSaid (word ∷ a.said) one) (λ one has. still_said a.said one word has) words a.put_out);
  }
    where
      all_still : (P Q : Word → Type 0) → ((one : Word) → P one → Q one) → (ws : List Word) → AllByRecursion P ws → AllByRecursion Q ws
      all_still P Q on [] all = tt
      all_still P Q on (one ∷ ws) all = (on one all.0, all_still P Q on ws all.1)

  wants_on_again : (entries : Requests) → AllByRecursion (λ (entry : ℕ × Asking). request_in (clerks n).requests entry.0 ≡ Some entry.1) entries → Again (wants_again s entries)
  wants_on_again [] all = record { said = g.said; locks = f.locks; said_on = λ word has. has; words_fit = f.words; promises = f.promises; put_out = tt }
  wants_on_again (entry ∷ rest) all = by_index (wants_on_again rest all.1) entry.1.held refl
    where
      w : Want
      w = record { session = s; block = entry.0; mode = entry.1.mode; number = entry.1.number }

      asked : g.side.requests s entry.0 ≡ Some (record { mode = entry.1.mode; number = entry.1.number; held = entry.1.held })
      asked = (f.clerk n).requests s own entry.0 ∙ ap request_from all.0

      number_fits : Fits entry.1.number
      number_fits = let d = f.locks.sides.request_drawn s entry.0 (record { mode = entry.1.mode; number = entry.1.number; held = entry.1.held }) asked in let e = (f.clerk n).drawn s own in let k = (f.clerk n).drawn_fits in omega (arith, d, e, k)

      by_index : Again (wants_again s rest) → (o : Option ℕ) → entry.1.held ≡ o → Again (wants_again s (entry ∷ rest))
      by_index a None out = subst (λ (i : Option ℕ). Again (cons_option (want_as s entry.0 entry.1.mode entry.1.number i) (wants_again s rest))) (sym out)
          (more_said (wants_again s rest) (Wants w) a (asks_again p.told.chain p.holding p.floor a.said g.side g.term w (record { mode = entry.1.mode; number = entry.1.number; held = entry.1.held }) a.locks asked refl)
          (own_fits nodes masters clerks p g n s f own, (f.clerk n).blocks entry.0 entry.1 all.0, number_fits) (λ t e is. cc))
      by_index a (Some i) held = subst (λ (j : Option ℕ). Again (cons_option (want_as s entry.0 entry.1.mode entry.1.number j) (wants_again s rest))) (sym held) a

  ticks : Outcome p g n s (clerks n) (clerks n) p.holding p.floor (tick_words (Some s) (clerks n).requests)
  ticks =
      let a = wants_on_again (clerks n).requests (each_found (clerks n).requests (f.clerk n).unique) in
      let b = more_said (wants_again s (clerks n).requests) (Renews s) a (says_little p.told.chain p.holding p.floor a.said g.side g.term (Renews s) a.locks (renews_say_little (oldest p.told.chain) g.side.drawn s))
      (own_fits nodes masters clerks p g n s f own) (λ t e is. cc) in
      record {
        said = b.said;
        side = g.side;
        locks = b.locks;
        clerk = f.clerk n;
        sides = record { requests = λ t c differ. refl; drawn = λ t differ. refl; given = λ t differ. refl };
        rises = same_drawn g.side.drawn;
        said_on = b.said_on;
        words_fit = b.words_fit;
        promises = b.promises;
        put_out = b.put_out;
        node = refl;
        boot = refl;
        session = refl;
      }

-- ---- all of it

-- a clerk's input, once it has learned the state
module _ (nodes : ℕ) (masters same_masters : ℕ → Mastering) (clerks others : ℕ → Clerking) (past : OwnersPast) (before after : List Letter) (n : ℕ) (keeps : Keeps nodes masters clerks (owners_with past before)) (masters_same : AreSame masters same_masters) (new : Clerking)
    (puts : PutsOne n new clerks others) where
  abbrev Fitting : Type 0
  Fitting = Holding (KeepsHolds past.holding) (Keeps nodes same_masters others) (owners_with past after)

  idle : new ≡ clerks n → after ≡ before ++ [] → Fitting
  idle same sends = record {
    holding = past.holding;
    may = record { each = λ t b h holds. holds };
    stands = subst (λ (ls : List Letter). Keeps nodes same_masters others (owners_with past ls)) (sym (append-nil before) ∙ sym sends)
        (alike nodes masters same_masters clerks others (owners_with past before) masters_same
        (record { each = λ m. ⊎_elim (λ is. ap others is.1 ∙ puts.at ∙ same ∙ ap clerks (sym is.1)) (λ other. puts.others m other.1) (eqb_tells m n) }) keeps);
  }

  heard_fits : (s : ℕ) (own : (clerks n).session ≡ Some s) (words : List Word) → Heard nodes masters clerks (owners_with past before) keeps.ghosts keeps.fits n s own new words → after ≡ before ++ letters_of (clerks n) words → Fitting
  heard_fits s own words h sends = record {
    holding = h.holding;
    may = h.may;
    stands = outcome_keeps nodes masters same_masters clerks others past before after n s keeps own masters_same new h.holding past.floor (clerks n).node (clerks n).server words h.outcome puts sends;
  }

  hears_in : (kind reading : ℕ) (body : List ℕ) → past.told.greatest ≤ reading + 500 → ((word : Word) → Spells word kind body → IsSaid keeps.ghosts.said word) → Hears (clerks n) kind reading body new before after → Fitting
  hears_in kind reading body steady each h = by_said h.said h.says h.is h.sends
    where
      by_said : (said : Option Word) → SaysOr kind body said → new ≡ (hear reading said (clerks n)).0 → after ≡ before ++ letters_of (clerks n) (hear reading said (clerks n)).1 → Fitting
      by_said None says is sends = idle is sends
      by_said (Some word) says is sends = elim (tested (is_same (clerks n).session (Some (session_in word)))) [
        | passes own_too ↦
            let own = is_own (clerks n).session (session_in word) own_too in
            let eq : hear reading (Some word) (clerks n) ≡ hear_own reading word (clerks n) = ap (λ (b : Bool). if b then hear_own reading word (clerks n) else (clerks n, [])) own_too in
            heard_fits (session_in word) own (hear_own reading word (clerks n)).1
            (subst (λ (c : Clerking). Heard nodes masters clerks (owners_with past before) keeps.ghosts keeps.fits n (session_in word) own c (hear_own reading word (clerks n)).1) (sym (is ∙ ap (λ (x : Said). x.0) eq))
            (hears_own nodes masters clerks (owners_with past before) keeps.ghosts keeps.fits n (session_in word) own reading word steady refl (each word says)))
            (sends ∙ ap (λ (x : Said). before ++ letters_of (clerks n) x.1) eq)
        | misses not_own ↦
            let eq : hear reading (Some word) (clerks n) ≡ (clerks n, []) = ap (λ (b : Bool). if b then hear_own reading word (clerks n) else (clerks n, [])) not_own in
            idle (is ∙ ap (λ (x : Said). x.0) eq) (sends ∙ ap (λ (x : Said). before ++ letters_of (clerks n) x.1) eq)
      ]

  ticks_in : new ≡ clerks n → after ≡ before ++ letters_of (clerks n) (tick_words (clerks n).session (clerks n).requests) → Fitting
  ticks_in is sends = by_session (clerks n).session refl
    where
      by_session : (o : Option ℕ) → (clerks n).session ≡ o → Fitting
      by_session None none = idle is (sends ∙ ap (λ (o : Option ℕ). before ++ letters_of (clerks n) (tick_words o (clerks n).requests)) none)
      by_session (Some s) own = heard_fits s own (tick_words (Some s) (clerks n).requests)
          (subst (λ (c : Clerking). Heard nodes masters clerks (owners_with past before) keeps.ghosts keeps.fits n s own c (tick_words (Some s) (clerks n).requests)) (sym is)
          (heard_same nodes masters clerks (owners_with past before) keeps.ghosts keeps.fits n s own (clerks n) (tick_words (Some s) (clerks n).requests)
          (ticks nodes masters clerks (owners_with past before) keeps.ghosts keeps.fits n s own)))
          (sends ∙ ap (λ (o : Option ℕ). before ++ letters_of (clerks n) (tick_words o (clerks n).requests)) own)

-- what it hands back
hands_change : (p : OwnersPast) (g : Ghosts) (greatest : ℕ) (o : Option ℕ) (c : Clerking) (reading : ℕ) → AreLeases p.told.chain greatest p.told.handed g.promised g.noted g.ends g.term.expiring
    → AreLeases p.told.chain greatest (with_change (tick_change o c reading) p.told.handed) g.promised g.noted g.ends g.term.expiring
hands_change p g greatest None c reading are = hands_open p.told.chain greatest p.told.handed g.promised g.noted g.ends g.term.expiring c.node c.boot reading are
hands_change p g greatest (Some s) c reading are = are

module _ (nodes : ℕ) (masters same_masters : ℕ → Mastering) (clerks others : ℕ → Clerking) (past : OwnersPast) (before after : List Letter) (n : ℕ) (known : GlobalState) (keeps : Keeps nodes masters clerks (owners_with past before)) (inside : n < nodes)
    (masters_same : AreSame masters same_masters) (new : Clerking) (puts : PutsOne n new clerks others) where
  abbrev knowing : ℕ → Clerking
  knowing = one_of n (learned known (clerks n)) clerks

  knows_here : knowing n ≡ learned known (clerks n)
  knows_here = one_at n (learned known (clerks n)) clerks

  puts_knowing : PutsOne n (learned known (clerks n)) clerks knowing
  puts_knowing = record { at = knows_here; others = λ m differ. one_not n (learned known (clerks n)) clerks m differ }

  puts_new : PutsOne n new knowing others
  puts_new = record { at = puts.at; others = λ m differ. puts.others m differ ∙ sym (one_not n (learned known (clerks n)) clerks m differ) }

  -- it asks for a session in its node's own boot
  opens_no_other : (change : Option Change) → change ≡ None → OpensOwn past.told.boots change
  opens_no_other change none node boot reading is = absurd (opens_nothing node boot reading (sym none ∙ is))

  opens_own : (change : Option Change) (reading : ℕ) → past.told.down (Node n) ≡ false → change ≡ tick_change (learned known (clerks n)).session (learned known (clerks n)) reading → OpensOwn past.told.boots change
  opens_own change reading up asks = subst (OpensOwn past.told.boots) (sym asks) (clerk_opens past.told.boots (learned known (clerks n)).session (learned known (clerks n)) reading
      (let b = (learned_stays known (clerks n)).1 ∙ keeps.fits.boot n inside up in let e = ap (λ (k : ℕ). past.told.boots (Node k)) ((learned_stays known (clerks n)).0 ∙ keeps.fits.node n inside) in omega (arith, b, e)))

  -- it has learned the state
  knows_it : (input : Input) (change : Option Change) → MayTake (owners_with past before).told known (Node n) input
      → AreLeases past.told.chain (greatest_with past.told.greatest input) (with_change change past.told.handed) keeps.ghosts.promised keeps.ghosts.noted keeps.ghosts.ends keeps.ghosts.term.expiring
      → OpensOwn past.told.boots change → Keeps nodes masters knowing (owners_with (owners_heard past (Node n) known.index input change) before)
  knows_it input change may leases opens =
      clerk_learns nodes masters clerks knowing (owners_with past before) n known keeps inside (record { up = may.up; place = may.place; rises = may.rises; own_boot = may.own_boot }) (greatest_with past.told.greatest input)
      (with_change change past.told.handed) leases (booted_asks past.told.chain past.told.handed past.told.boots change opens keeps.fits.booted) puts_knowing

  leases_read : (greatest : ℕ) → past.told.greatest ≤ greatest → AreLeases past.told.chain greatest past.told.handed keeps.ghosts.promised keeps.ghosts.noted keeps.ghosts.ends keeps.ghosts.term.expiring
  leases_read greatest greater = reads_on past.told.chain past.told.greatest greatest past.told.handed keeps.ghosts.promised keeps.ghosts.noted keeps.ghosts.ends keeps.ghosts.term.expiring keeps.fits.leases_are greater

  pub clerk_takes : (input : Input) (change : Option Change) → MayTake (owners_with past before).told known (Node n) input → Takes (clerks n) known input new change before after
      → Holding (KeepsHolds past.holding) (Keeps nodes same_masters others) (owners_with (owners_heard past (Node n) known.index input change) after)
  clerk_takes (Packet packet reading) change may took =
      let k = knows_it (Packet packet reading) change may
      (subst (λ (c : Option Change). AreLeases past.told.chain (max past.told.greatest reading) (with_change c past.told.handed) keeps.ghosts.promised keeps.ghosts.noted keeps.ghosts.ends keeps.ghosts.term.expiring) (sym took.1)
      (leases_read (max past.told.greatest reading) (omega arith))) (opens_no_other change took.1) in
      hears_in nodes masters same_masters knowing others (owners_heard past (Node n) known.index (Packet packet reading) change) before after n k masters_same new puts_new packet.now.kind reading packet.now.body
      (let s = may.steady in omega (arith, s)) (λ word spells. k.fits.letters (letter_of packet.now) word may.comes spells)
      (subst (λ (c : Clerking). Hears c packet.now.kind reading packet.now.body new before after) (sym knows_here) took.0)
  clerk_takes (Tick reading) change may took =
      let k = knows_it (Tick reading) change may
      (subst (λ (c : Option Change). AreLeases past.told.chain (max past.told.greatest reading) (with_change c past.told.handed) keeps.ghosts.promised keeps.ghosts.noted keeps.ghosts.ends keeps.ghosts.term.expiring) (sym took.asks)
      (hands_change (owners_with past before) keeps.ghosts (max past.told.greatest reading) (learned known (clerks n)).session (learned known (clerks n)) reading (leases_read (max past.told.greatest reading) (omega arith)))) (opens_own change reading may.up took.asks) in
      ticks_in nodes masters same_masters knowing others (owners_heard past (Node n) known.index (Tick reading) change) before after n k masters_same new puts_new (took.is ∙ sym knows_here)
      (took.sends ∙ ap (λ (c : Clerking). before ++ letters_of c (tick_words c.session c.requests)) (sym knows_here))
  clerk_takes Synced change may took =
      let k = knows_it Synced change may
      (subst (λ (c : Option Change). AreLeases past.told.chain past.told.greatest (with_change c past.told.handed) keeps.ghosts.promised keeps.ghosts.noted keeps.ghosts.ends keeps.ghosts.term.expiring) (sym took.1)
      (leases_read past.told.greatest (omega arith))) (opens_no_other change took.1) in
      idle nodes masters same_masters knowing others (owners_heard past (Node n) known.index Synced change) before after n k masters_same new puts_new (took.0 ∙ sym knows_here) (took.2 ∙ sym (append-nil before))

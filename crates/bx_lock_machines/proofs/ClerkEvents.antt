-- A clerk does something for its session: all fits again.
use Rattle.std.proofs.Common.{◌≡◌, ◌≢◌, inl, inr, ⊎_elim, ℕ, ◌+◌, ◌<◌, Bool, true, false, List, [], ◌∷◌, ◌++◌, max, Option, Some, None, refl, sym, ◌∙◌, ap, subst, arith}
use Rattle.std.specs.Prelude.{IsSome, ltb, if◌then◌else◌}
use Rattle.std.specs.List.{AllByRecursion}
use Rattle.std.proofs.lemmas.Bool.Decides.{eqb_tells, nat_tests}
use Rattle.bx_base.specs.declared.names.Actor.TheVariants.{Node, Server as ServerOf}
use Rattle.bx_base.specs.declared.names.Mode.{Mode}
use Rattle.bx_global.specs.declared.state.GlobalState.{GlobalState}
use Rattle.bx_global.specs.Table.{greatest}
use Rattle.bx_rows.specs.Conditions.{Fits}
use Rattle.bx_post.specs.declared.packets.Letter.{Letter}
use Rattle.bx_facts.specs.Chains.{IsPlace, LivesIn, last}
use Rattle.bx_facts.specs.Holds.{Hold, Holding, Holds, KeepsOthers, OwnersPast, given, given_floor, owners_with}
use Rattle.bx_lock_words.specs.Words.{IsWord, letter_with}
use Rattle.bx_lock_words.specs.declared.words.Word.{Word}
use Rattle.bx_lock_words.specs.declared.words.Word.TheVariants.{Wants, Releases, Leases}
use Rattle.bx_locking.specs.Leases.{IsPromised}
use Rattle.bx_locking.specs.Tables.{AreLocks, Rises, Side}
use Rattle.bx_locking.specs.Words.{IsSaid}
use Rattle.bx_locking.proofs.Basics.{now_said, place_most, said_or, still_said}
use Rattle.bx_master.specs.Masters.{Mastering}
use Rattle.bx_clerk.specs.Clerks.{Clerking, asking, asking_words, giving_up, giving_words, letters_of}
use Rattle.bx_clerk.specs.Requests.{hold_as, hold_of, request_in}
use Rattle.bx_clerk.specs.declared.requests.Asking.{Asking}
use Rattle.bx_lock_machines.specs.Keeps.{AreSame, FitsPast, Ghosts, Keeps, PutsOne}
use Rattle.bx_lock_steps.specs.Machines.{FitsClerk, FitsMaster, request_from}
use Rattle.bx_lock_steps.proofs.Accounts.{misses, passes, tested}
use Rattle.bx_lock_steps.proofs.Chains.{one_session}
use Rattle.bx_lock_steps.proofs.Clerks.{KeepsSides, others_fit}
use Rattle.bx_lock_steps.proofs.Functions.{keeps_others, unheld}
use Rattle.bx_lock_machines.proofs.Letters.{letters_after, letters_said}
use Rattle.bx_lock_steps.proofs.Others.{master_hears, same_drawn}
use Rattle.bx_lock_steps.proofs.Taking.{Given, gives_on, release_now, side_giving}
use Rattle.bx_lock_steps.proofs.Wanting.{Ended, Wanted, asking_now, ending_now, ends_on, side_asking, side_ending, want_now, wants_on}

-- what the clerk of a session keeps, and the data that it changed
pub record Outcome (p : OwnersPast) (g : Ghosts) (n s : ℕ) (c new : Clerking) (holding : Holds) (floor : ℕ → ℕ) (words : List Word) : Type 0 where
  pub said : List Word
  pub side : Side
  pub locks : AreLocks p.told.chain holding floor said side g.term
  pub clerk : FitsClerk p.told.chain (p.told.knew (Node n)) (p.told.boots (Node n)) side g.had g.promised n new
  pub sides : KeepsSides s g.side side
  pub rises : Rises g.side.drawn side.drawn
  pub said_on : (word : Word) → IsSaid g.said word → IsSaid said word
  pub words_fit : (word : Word) → IsSaid said word → IsWord word
  pub promises : (t e : ℕ) → IsSaid said (Leases t e) → IsPromised g.promised t e
  pub put_out : AllByRecursion (λ (word : Word). IsSaid said word) words
  pub node : new.node ≡ c.node
  pub boot : new.boot ≡ c.boot
  pub session : new.session ≡ c.session

-- a session is one clerk's
pub one_clerk : (nodes : ℕ) (masters : ℕ → Mastering) (clerks : ℕ → Clerking) (p : OwnersPast) (g : Ghosts) (n m s : ℕ) → FitsPast nodes masters clerks p g → (clerks n).session ≡ Some s → (clerks m).session ≡ Some s → m ≡ n
one_clerk nodes masters clerks p g n m s f own also =
    let a = (f.clerk n).session s own in
    let b = (f.clerk m).session s also in
    sym (one_session p.told.chain a.state b.state n m (p.told.boots (Node n)) (p.told.boots (Node m)) s f.states.rising a.place b.place a.own b.own).0

module _ (nodes : ℕ) (masters same_masters : ℕ → Mastering) (clerks others : ℕ → Clerking) (past : OwnersPast) (before after : List Letter) (n s : ℕ) (keeps : Keeps nodes masters clerks (owners_with past before)) (own : (clerks n).session ≡ Some s)
    (masters_same : AreSame masters same_masters) where
  -- all fits with it
  pub outcome_keeps : (new : Clerking) (holding : Holds) (floor : ℕ → ℕ) (node server : ℕ) (words : List Word) → Outcome (owners_with past before) keeps.ghosts n s (clerks n) new holding floor words → PutsOne n new clerks others
      → after ≡ before ++ letters_of (record new { node = node; server = server }) words → Keeps nodes same_masters others (record (owners_with past after) { holding = holding; floor = floor })
  outcome_keeps new holding floor node server words o puts sends = record {
    ghosts = record {
      said = o.said;
      side = o.side;
      term = g.term;
      promised = g.promised;
      noted = g.noted;
      ends = g.ends;
      had = g.had;
    };
    fits = record {
      locks = o.locks;
      leases_are = f.leases_are;
      had_are = record {
        was = f.had_are.was;
        once = λ t m had. ⊎_elim
            (λ has. inl (⊎_elim
            (λ is. ap (λ (k : ℕ). (others k).session) is.1 ∙ ap (λ (c : Clerking). c.session) puts.at ∙ o.session ∙ ap (λ (k : ℕ). (clerks k).session) (sym is.1) ∙ has)
            (λ other. ap (λ (c : Clerking). c.session) (puts.others m other.1) ∙ has)
            (eqb_tells m n)))
            (λ never. inr never)
            (f.had_are.once t m had);
        fresh = λ t none.
            let differ : t ≢ s = (λ is. true_false (sym ((f.clerk n).had_is s own) ∙ ap g.had (sym is) ∙ none)) in
            let k = f.had_are.fresh t none in (λ b. o.sides.requests t b differ ∙ k.0 b, o.sides.drawn t differ ∙ k.1, o.sides.given t differ ∙ k.2);
      };
      states = f.states;
      booted = f.booted;
      knew_most = f.knew_most;
      clerk = λ m. ⊎_elim
          (λ is. subst (λ (k : ℕ). FitsClerk past.told.chain (past.told.knew (Node k)) (past.told.boots (Node k)) o.side g.had g.promised k (others k)) (sym is.1)
          (subst (λ (c : Clerking). FitsClerk past.told.chain (past.told.knew (Node n)) (past.told.boots (Node n)) o.side g.had g.promised n c) (sym puts.at) o.clerk))
          (λ other. subst (λ (c : Clerking). FitsClerk past.told.chain (past.told.knew (Node m)) (past.told.boots (Node m)) o.side g.had g.promised m c) (sym (puts.others m other.1))
          (others_fit past.told.chain (past.told.knew (Node m)) (past.told.boots (Node m)) g.side o.side g.had g.promised m s (clerks m) o.sides (λ has. other.1 (one_clerk nodes masters clerks (owners_with past before) g n m s f own has)) (f.clerk m)))
          (eqb_tells m n);
      node = λ m inside. ⊎_elim
          (λ is. ap (λ (k : ℕ). (others k).node) is.1 ∙ ap (λ (c : Clerking). c.node) puts.at ∙ o.node ∙ ap (λ (k : ℕ). (clerks k).node) (sym is.1) ∙ f.node m inside)
          (λ other. ap (λ (c : Clerking). c.node) (puts.others m other.1) ∙ f.node m inside)
          (eqb_tells m n);
      boot = λ m inside up. ⊎_elim
          (λ is. ap (λ (k : ℕ). (others k).boot) is.1 ∙ ap (λ (c : Clerking). c.boot) puts.at ∙ o.boot ∙ ap (λ (k : ℕ). (clerks k).boot) (sym is.1) ∙ f.boot m inside up)
          (λ other. ap (λ (c : Clerking). c.boot) (puts.others m other.1) ∙ f.boot m inside up)
          (eqb_tells m n);
      server = λ id inside. ap (λ (m : Mastering). m.server) (masters_same.each id) ∙ f.server id inside;
      master = λ id inside up. subst (λ (m : Mastering). FitsMaster past.told.chain (past.told.knew (ServerOf id)) (past.told.boots (ServerOf id)) o.said o.side.drawn g.term g.noted id m) (sym (masters_same.each id))
          (master_hears past.told.chain (past.told.knew (ServerOf id)) (past.told.boots (ServerOf id)) g.said o.said g.side.drawn o.side.drawn g.term g.noted id (masters id) o.said_on o.rises (f.master id inside up));
      before = f.before;
      letters = letters_after o.said past.told.letters before after (letters_of (record new { node = node; server = server }) words)
          (λ letter word has spells. o.said_on word (f.letters letter word has spells))
          (letters_said o.said (letter_with (Node node) (ServerOf server)) (λ w. refl) (λ w. refl) o.words_fit words o.put_out) sends;
      words = o.words_fit;
      promises = o.promises;
      leases = f.leases;
    };
  }
    where
      g : Ghosts
      g = keeps.ghosts

      f : FitsPast nodes masters clerks (owners_with past before) g
      f = keeps.fits

      true_false : true ≡ false → ⊥
      true_false wrong = cc

-- the number of a session that a clerk has, as it is spelled
pub own_known : (nodes : ℕ) (masters : ℕ → Mastering) (clerks : ℕ → Clerking) (p : OwnersPast) (g : Ghosts) (n s : ℕ) → FitsPast nodes masters clerks p g → (clerks n).session ≡ Some s → s < (last p.told.chain).next_session
own_known nodes masters clerks p g n s f own = f.leases_are.known s (clerks n).lease ((f.clerk n).lease s own)

pub own_fits : (nodes : ℕ) (masters : ℕ → Mastering) (clerks : ℕ → Clerking) (p : OwnersPast) (g : Ghosts) (n s : ℕ) → FitsPast nodes masters clerks p g → (clerks n).session ≡ Some s → Fits s
own_fits nodes masters clerks p g n s f own = let k = own_known nodes masters clerks p g n s f own in let l = f.states.next_fits in omega (arith, k, l)

-- ---- it wants a block

module _ (nodes : ℕ) (masters same_masters : ℕ → Mastering) (clerks others : ℕ → Clerking) (past : OwnersPast) (before after : List Letter) (n s : ℕ) (keeps : Keeps nodes masters clerks (owners_with past before)) (own : (clerks n).session ≡ Some s)
    (masters_same : AreSame masters same_masters) (block : ℕ) (block_fits : Fits block) where
  wanted_outcome : (mode : Mode) → ltb (clerks n).drawn greatest ≡ true
      → Outcome (owners_with past before) keeps.ghosts n s (clerks n) (asking_now block mode (clerks n)) (unheld past.holding s block) past.floor (Wants (want_now (clerks n) s block mode) ∷ [])
  wanted_outcome mode is = record {
    said = Wants (want_now (clerks n) s block mode) ∷ g.said;
    side = side_asking g.side (clerks n) s block mode;
    locks = w.locks;
    clerk = w.clerk;
    sides = w.keeps;
    rises = w.rises;
    said_on = λ word has. still_said g.said word (Wants (want_now (clerks n) s block mode)) has;
    words_fit = λ word has. ⊎_elim (λ newest. subst IsWord (sym newest) (own_fits nodes masters clerks (owners_with past before) g n s f own, block_fits, number_fits)) (λ old. f.words word old) (said_or g.said word (Wants (want_now (clerks n) s block mode)) has);
    promises = λ t e has. ⊎_elim (λ newest. absurd cc) (λ old. f.promises t e old) (said_or g.said (Leases t e) (Wants (want_now (clerks n) s block mode)) has);
    put_out = (now_said g.said (Wants (want_now (clerks n) s block mode)), tt);
    node = refl;
    boot = refl;
    session = refl;
  }
    where
      g : Ghosts
      g = keeps.ghosts

      f : FitsPast nodes masters clerks (owners_with past before) g
      f = keeps.fits

      number_fits : Fits ((clerks n).drawn + 1)
      number_fits = let l : (clerks n).drawn < greatest = grind (arith, nat_tests, is) in omega (arith, l)

      w : Wanted past.told.chain past.holding past.floor g.said g.side g.term (past.told.knew (Node n)) (past.told.boots (Node n)) g.had g.promised n (clerks n) s block mode
      w = wants_on past.told.chain past.holding past.floor g.said g.side g.term (past.told.knew (Node n)) (past.told.boots (Node n)) g.had g.promised n (clerks n) s block mode f.locks (f.clerk n) own
          (own_known nodes masters clerks (owners_with past before) g n s f own) block_fits number_fits

  ended_outcome : Outcome (owners_with past before) keeps.ghosts n s (clerks n) (ending_now block (clerks n)) (unheld past.holding s block) past.floor []
  ended_outcome = record {
    said = g.said;
    side = side_ending g.side s block;
    locks = e.locks;
    clerk = e.clerk;
    sides = e.keeps;
    rises = same_drawn g.side.drawn;
    said_on = λ word has. has;
    words_fit = f.words;
    promises = f.promises;
    put_out = tt;
    node = refl;
    boot = refl;
    session = refl;
  }
    where
      g : Ghosts
      g = keeps.ghosts

      f : FitsPast nodes masters clerks (owners_with past before) g
      f = keeps.fits

      e : Ended past.told.chain past.holding past.floor g.said g.side g.term (past.told.knew (Node n)) (past.told.boots (Node n)) g.had g.promised n (ending_now block (clerks n)) s block
      e = ends_on past.told.chain past.holding past.floor g.said g.side g.term (past.told.knew (Node n)) (past.told.boots (Node n)) g.had g.promised n (clerks n) s block f.locks (f.clerk n) own

  pub clerk_wants : (mode : Mode) → PutsOne n (asking block mode (clerks n)) clerks others → after ≡ before ++ letters_of (clerks n) (asking_words (clerks n).session block mode (clerks n))
      → Holding (KeepsOthers s block past.holding) (Keeps nodes same_masters others) (owners_with past after)
  clerk_wants mode puts sends = record {
    holding = unheld past.holding s block;
    may = keeps_others past.holding s block;
    stands = elim (tested (ltb (clerks n).drawn greatest)) [
      | passes is ↦ outcome_keeps nodes masters same_masters clerks others past before after n s keeps own masters_same (asking_now block mode (clerks n)) (unheld past.holding s block) past.floor (clerks n).node (clerks n).server
          (Wants (want_now (clerks n) s block mode) ∷ []) (wanted_outcome mode is)
          (subst (λ (c : Clerking). PutsOne n c clerks others) (ap (λ (b : Bool). if b then asking_now block mode (clerks n) else ending_now block (clerks n)) is) puts)
          (sends ∙ ap (λ (o : Option ℕ). before ++ letters_of (clerks n) (asking_words o block mode (clerks n))) own
          ∙ ap (λ (b : Bool). before ++ letters_of (clerks n) (if b then Wants (want_now (clerks n) s block mode) ∷ [] else [])) is)
      | misses is_not ↦ outcome_keeps nodes masters same_masters clerks others past before after n s keeps own masters_same (ending_now block (clerks n)) (unheld past.holding s block) past.floor (clerks n).node (clerks n).server
          [] ended_outcome
          (subst (λ (c : Clerking). PutsOne n c clerks others) (ap (λ (b : Bool). if b then asking_now block mode (clerks n) else ending_now block (clerks n)) is_not) puts)
          (sends ∙ ap (λ (o : Option ℕ). before ++ letters_of (clerks n) (asking_words o block mode (clerks n))) own
          ∙ ap (λ (b : Bool). before ++ letters_of (clerks n) (if b then Wants (want_now (clerks n) s block mode) ∷ [] else [])) is_not)
    ];
  }

-- ---- it gives a block up

module _ (nodes : ℕ) (masters same_masters : ℕ → Mastering) (clerks others : ℕ → Clerking) (past : OwnersPast) (before after : List Letter) (n s : ℕ) (keeps : Keeps nodes masters clerks (owners_with past before)) (own : (clerks n).session ≡ Some s)
    (masters_same : AreSame masters same_masters) (block index : ℕ) (p : GlobalState) (place : IsPlace past.told.chain p) (at_index : p.index ≡ index) (alive : LivesIn p s) where
  given_outcome : (r : Asking) (i : ℕ) → request_in (clerks n).requests block ≡ Some r → r.held ≡ Some i
      → Outcome (owners_with past before) keeps.ghosts n s (clerks n) (giving_up block index (clerks n)) (unheld past.holding s block) (given_floor (Some (r.mode, i)) past.floor block index) (Releases (release_now (clerks n) s block r.number index) ∷ [])
  given_outcome r i there held = record {
    said = word ∷ g.said;
    side = side_giving g.side (clerks n) s block index;
    locks = w.locks;
    clerk = w.clerk;
    sides = w.keeps;
    rises = same_drawn g.side.drawn;
    said_on = λ other has. still_said g.said other word has;
    words_fit = λ other has. ⊎_elim (λ newest. subst IsWord (sym newest) (own_fits nodes masters clerks (owners_with past before) g n s f own, (f.clerk n).blocks block r there, number_fits, release_fits)) (λ old. f.words other old) (said_or g.said other word has);
    promises = λ t e has. ⊎_elim (λ newest. absurd cc) (λ old. f.promises t e old) (said_or g.said (Leases t e) word has);
    put_out = (now_said g.said word, tt);
    node = refl;
    boot = refl;
    session = refl;
  }
    where
      g : Ghosts
      g = keeps.ghosts

      f : FitsPast nodes masters clerks (owners_with past before) g
      f = keeps.fits

      word : Word
      word = Releases (release_now (clerks n) s block r.number index)

      index_fits : Fits index
      index_fits = let l = place_most past.told.chain p place in let k = f.states.index_fits in omega (arith, l, k, at_index)

      release_fits : Fits (max (clerks n).given index)
      release_fits = let a = (f.clerk n).given_fits in let b = index_fits in omega (arith, a, b)

      number_fits : Fits r.number
      number_fits =
          let d = f.locks.sides.request_drawn s block (record { mode = r.mode; number = r.number; held = r.held }) ((f.clerk n).requests s own block ∙ ap request_from there) in
          let e = (f.clerk n).drawn s own in let k = (f.clerk n).drawn_fits in omega (arith, d, e, k)

      w : Given past.told.chain past.holding past.floor g.said g.side g.term (past.told.knew (Node n)) (past.told.boots (Node n)) g.had g.promised n (clerks n) s block r.number index (Some (r.mode, i))
      w = gives_on past.told.chain past.holding past.floor g.said g.side g.term (past.told.knew (Node n)) (past.told.boots (Node n)) g.had g.promised n (clerks n) s block index i r p f.locks (f.clerk n) own there held place alive at_index index_fits

  gives_as : (r : Asking) (i : ℕ) → request_in (clerks n).requests block ≡ Some r → r.held ≡ Some i → PutsOne n (giving_up block index (clerks n)) clerks others
      → after ≡ before ++ letters_of (clerks n) (giving_words (clerks n).session block (request_in (clerks n).requests block) (max (clerks n).given index))
      → Holding (KeepsOthers s block past.holding) (Keeps nodes same_masters others) (owners_with (given past (hold_of (request_in (clerks n).requests block)) block index) after)
  gives_as r i there held puts sends = record {
    holding = unheld past.holding s block;
    may = keeps_others past.holding s block;
    stands = subst (λ (h : Option Hold). Keeps nodes same_masters others (record (owners_with (given past h block index) after) { holding = unheld past.holding s block }))
        (sym (ap hold_of there ∙ ap (hold_as r.mode) held))
        (outcome_keeps nodes masters same_masters clerks others past before after n s keeps own masters_same (giving_up block index (clerks n)) (unheld past.holding s block) (given_floor (Some (r.mode, i)) past.floor block index)
        (clerks n).node (clerks n).server (Releases (release_now (clerks n) s block r.number index) ∷ []) (given_outcome r i there held) puts
        (sends ∙ ap (λ (o : Option ℕ). before ++ letters_of (clerks n) (giving_words o block (request_in (clerks n).requests block) (max (clerks n).given index))) own
        ∙ ap (λ (o : Option Asking). before ++ letters_of (clerks n) (giving_words (Some s) block o (max (clerks n).given index))) there));
  }

  pub clerk_gives_up : IsSome (hold_of (request_in (clerks n).requests block)) → PutsOne n (giving_up block index (clerks n)) clerks others
      → after ≡ before ++ letters_of (clerks n) (giving_words (clerks n).session block (request_in (clerks n).requests block) (max (clerks n).given index))
      → Holding (KeepsOthers s block past.holding) (Keeps nodes same_masters others) (owners_with (given past (hold_of (request_in (clerks n).requests block)) block index) after)
  clerk_gives_up held puts sends = by_request (request_in (clerks n).requests block) refl held
    where
      by_index : (r : Asking) (o : Option ℕ) → request_in (clerks n).requests block ≡ Some r → r.held ≡ o → IsSome (hold_as r.mode o)
          → Holding (KeepsOthers s block past.holding) (Keeps nodes same_masters others) (owners_with (given past (hold_of (request_in (clerks n).requests block)) block index) after)
      by_index r None there out some = absurd cc
      by_index r (Some i) there is some = gives_as r i there is puts sends

      by_request : (o : Option Asking) → request_in (clerks n).requests block ≡ o → IsSome (hold_of o)
          → Holding (KeepsOthers s block past.holding) (Keeps nodes same_masters others) (owners_with (given past (hold_of (request_in (clerks n).requests block)) block index) after)
      by_request None none some = absurd cc
      by_request (Some r) there some = by_index r r.held there refl some

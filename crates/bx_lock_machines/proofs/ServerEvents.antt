-- A lock server does one event: all fits again.
use Rattle.std.proofs.Common.{◌≡◌, ◌≢◌, inl, inr, ⊎_elim, ◌⊎◌, ℕ, ◌<◌, ◌≤◌, Bool, false, List, ◌++◌, Option, refl, sym, ◌∙◌, ap, subst, arith}
use Rattle.std.specs.Prelude.{if◌then◌else◌}
use Rattle.std.specs.List.{AllByRecursion}
use Rattle.std.proofs.lemmas.Bool.Decides.{eqb_tells}
use Rattle.bx_base.specs.declared.names.Actor.TheVariants.{Node, Server as ServerOf}
use Rattle.bx_global.specs.declared.change.Change.{Change}
use Rattle.bx_global.specs.declared.state.GlobalState.{GlobalState}
use Rattle.bx_post.specs.declared.packets.Letter.{Letter}
use Rattle.bx_facts.specs.Chains.{IsPlace, last, with_change}
use Rattle.bx_facts.specs.Holds.{OwnersPast, owners_heard, owners_with}
use Rattle.bx_facts.specs.Inputs.{greatest_with}
use Rattle.bx_facts.specs.Machines.{is_same, put_at}
use Rattle.bx_facts.specs.declared.input.Input.{Input}
use Rattle.bx_facts.proofs.Machines.{elsewhere, here}
use Rattle.bx_lock_words.specs.Words.{IsWord}
use Rattle.bx_lock_words.specs.declared.words.Word.{Word}
use Rattle.bx_lock_words.specs.declared.words.Word.TheVariants.{Leases}
use Rattle.bx_locking.specs.Leases.{AreLeases, IsPromised}
use Rattle.bx_locking.specs.Tables.{AreLocks, Term}
use Rattle.bx_locking.specs.Words.{IsSaid}
use Rattle.bx_locking.proofs.Basics.{place_most}
use Rattle.bx_master.specs.Masters.{Mastering}
use Rattle.bx_master.specs.Steps as masters_steps
use Rattle.bx_master.specs.Steps.{Hears, SaysOr, Ticks, letters_of}
use Rattle.bx_clerk.specs.Clerks.{Clerking}
use Rattle.bx_lock_machines.specs.Keeps.{AreSame, FitsPast, Ghosts, Keeps, PutsOne}
use Rattle.bx_lock_steps.specs.Machines.{FitsClerk, FitsMaster, IsMaster, IsUntied}
use Rattle.bx_lock_steps.proofs.Accounts.{misses, passes, tested}
use Rattle.bx_lock_machines.proofs.Boots.{OpensNone, booted_asks}
use Rattle.bx_lock_machines.proofs.Letters.{letters_after, letters_said}
use Rattle.bx_lock_steps.proofs.Others.{clerk_promised, master_beside, master_hears, same_drawn}
use Rattle.bx_lock_steps.proofs.Serving.{Spoken}

-- ---- what comes of an event

-- what the server keeps, and the data that it changed
pub record Outcome (p : OwnersPast) (g : Ghosts) (id : ℕ) (known : GlobalState) (greatest : ℕ) (handed : List Change) (new : Mastering) (words : List Word) : Type 0 where
  pub now : Spoken
  pub locks : AreLocks p.told.chain p.holding p.floor now.said g.side now.term
  pub leases : AreLeases p.told.chain greatest handed now.promised now.noted g.ends now.term.expiring
  pub promises : (s e : ℕ) → IsSaid now.said (Leases s e) → IsPromised now.promised s e
  pub words_fit : (word : Word) → IsSaid now.said word → IsWord word
  pub said_on : (word : Word) → IsSaid g.said word → IsSaid now.said word
  pub promised_on : (s e : ℕ) → IsPromised g.promised s e → IsPromised now.promised s e
  pub put_out : AllByRecursion (λ (word : Word). IsSaid now.said word) words
  pub master : FitsMaster p.told.chain known.index (p.told.boots (ServerOf id)) now.said g.side.drawn now.term now.noted id new
  pub own : ((now.term ≡ g.term) × (now.noted ≡ g.noted)) ⊎ IsMaster (last p.told.chain) id (p.told.boots (ServerOf id))

module _ (nodes : ℕ) (masters others : ℕ → Mastering) (clerks same_clerks : ℕ → Clerking) (past : OwnersPast) (before after : List Letter) (id : ℕ) (known : GlobalState) (keeps : Keeps nodes masters clerks (owners_with past before))
    (clerks_same : AreSame clerks same_clerks) where
  -- all fits with it
  pub outcome_keeps : (input : Input) (change : Option Change) (new : Mastering) (words : List Word) → Outcome (owners_with past before) keeps.ghosts id known (greatest_with past.told.greatest input) (with_change change past.told.handed) new words
      → IsPlace past.told.chain known → OpensNone change → PutsOne id new masters others → after ≡ before ++ letters_of id known words → Keeps nodes others same_clerks (owners_with (owners_heard past (ServerOf id) known.index input change) after)
  outcome_keeps input change new words o place opens puts sends = record {
    ghosts = record {
      said = o.now.said;
      side = g.side;
      term = o.now.term;
      promised = o.now.promised;
      noted = o.now.noted;
      ends = g.ends;
      had = g.had;
    };
    fits = record {
      locks = o.locks;
      leases_are = o.leases;
      had_are = record {
        was = λ s had. let w = f.had_are.was s had in record { state = w.state; node = w.node; boot = w.boot; place = w.place; own = w.own; own_boot = w.own_boot; most = w.most; seen = w.seen };
        once = λ s n had. ⊎_elim (λ own. inl (ap (λ (c : Clerking). c.session) (clerks_same.each n) ∙ own)) (λ never. inr never) (f.had_are.once s n had);
        fresh = f.had_are.fresh;
      };
      states = f.states;
      booted = booted_asks past.told.chain past.told.handed past.told.boots change (λ node boot reading is. absurd (opens node boot reading is)) f.booted;
      knew_most = λ who. elim (tested (is_same (ServerOf id) who)) [
        | passes is ↦ subst (λ (b : Bool). (if b then known.index else past.told.knew who) ≤ (last past.told.chain).index) (sym is) (place_most past.told.chain known place)
        | misses is_not ↦ subst (λ (b : Bool). (if b then known.index else past.told.knew who) ≤ (last past.told.chain).index) (sym is_not) (f.knew_most who)
      ];
      clerk = λ n. subst (λ (c : Clerking). FitsClerk past.told.chain (past.told.knew (Node n)) (past.told.boots (Node n)) g.side g.had o.now.promised n c) (sym (clerks_same.each n))
          (clerk_promised past.told.chain (past.told.knew (Node n)) (past.told.boots (Node n)) g.side g.had g.promised o.now.promised n (clerks n) o.promised_on (f.clerk n));
      node = λ n inside. ap (λ (c : Clerking). c.node) (clerks_same.each n) ∙ f.node n inside;
      boot = λ n inside up. ap (λ (c : Clerking). c.boot) (clerks_same.each n) ∙ f.boot n inside up;
      server = λ j inside. ⊎_elim
          (λ is. ap (λ (k : ℕ). (others k).server) is.1 ∙ ap (λ (m : Mastering). m.server) puts.at ∙ o.master.server ∙ sym is.1)
          (λ other. ap (λ (m : Mastering). m.server) (puts.others j other.1) ∙ f.server j inside)
          (eqb_tells j id);
      master = λ j inside up. ⊎_elim
          (λ is. subst (λ (k : ℕ). FitsMaster past.told.chain (put_at (ServerOf id) known.index past.told.knew (ServerOf k)) (past.told.boots (ServerOf k)) o.now.said g.side.drawn o.now.term o.now.noted k (others k)) (sym is.1)
          (subst (λ (k : ℕ). FitsMaster past.told.chain k (past.told.boots (ServerOf id)) o.now.said g.side.drawn o.now.term o.now.noted id (others id)) (sym (here (ServerOf id) known.index past.told.knew))
          (subst (λ (m : Mastering). FitsMaster past.told.chain known.index (past.told.boots (ServerOf id)) o.now.said g.side.drawn o.now.term o.now.noted id m) (sym puts.at) o.master)))
          (λ other. subst (λ (k : ℕ). FitsMaster past.told.chain k (past.told.boots (ServerOf j)) o.now.said g.side.drawn o.now.term o.now.noted j (others j)) (sym (elsewhere (ServerOf id) (ServerOf j) known.index past.told.knew (λ is. other.1 (one_server j id is))))
          (subst (λ (m : Mastering). FitsMaster past.told.chain (past.told.knew (ServerOf j)) (past.told.boots (ServerOf j)) o.now.said g.side.drawn o.now.term o.now.noted j m) (sym (puts.others j other.1)) (beside j inside up other.1)))
          (eqb_tells j id);
      before = λ ahead. ⊎_elim
          (λ kept. subst (λ (t : Term). IsUntied past.told.chain t o.now.noted) (sym kept.0) (subst (λ (n : ℕ → ℕ). IsUntied past.told.chain g.term n) (sym kept.1) (f.before ahead)))
          (λ master. absurd (let e = ap (λ (k : ℕ). past.told.boots (ServerOf k)) master.server in let b = master.boot_is in omega (arith, ahead, e, b)))
          o.own;
      letters = letters_after o.now.said past.told.letters before after (letters_of id known words)
          (λ letter word has spells. o.said_on word (f.letters letter word has spells))
          (letters_said o.now.said (masters_steps.letter_to id known) (λ w. refl) (λ w. refl) o.words_fit words o.put_out) sends;
      words = o.words_fit;
      promises = o.promises;
      leases = λ s e has. o.promised_on s e (f.leases s e has);
    };
  }
    where
      g : Ghosts
      g = keeps.ghosts

      f : FitsPast nodes masters clerks (owners_with past before) g
      f = keeps.fits

      one_server : (a b : ℕ) → ServerOf a ≡ ServerOf b → a ≡ b
      one_server a b is = cc

      beside : (j : ℕ) → j < 2 → past.told.down (ServerOf j) ≡ false → j ≢ id → FitsMaster past.told.chain (past.told.knew (ServerOf j)) (past.told.boots (ServerOf j)) o.now.said g.side.drawn o.now.term o.now.noted j (masters j)
      beside j inside up differ = master_hears past.told.chain (past.told.knew (ServerOf j)) (past.told.boots (ServerOf j)) g.said o.now.said g.side.drawn g.side.drawn o.now.term o.now.noted j (masters j) o.said_on (same_drawn g.side.drawn)
          (⊎_elim
          (λ kept. subst (λ (t : Term). FitsMaster past.told.chain (past.told.knew (ServerOf j)) (past.told.boots (ServerOf j)) g.said g.side.drawn t o.now.noted j (masters j)) (sym kept.0)
          (subst (λ (n : ℕ → ℕ). FitsMaster past.told.chain (past.told.knew (ServerOf j)) (past.told.boots (ServerOf j)) g.said g.side.drawn g.term n j (masters j)) (sym kept.1) (f.master j inside up)))
          (λ master. master_beside past.told.chain (past.told.knew (ServerOf j)) (past.told.boots (ServerOf j)) g.said g.side.drawn g.term o.now.term g.noted o.now.noted j (masters j)
          (λ also. differ (sym also.server ∙ master.server)) (f.master j inside up))
          o.own)

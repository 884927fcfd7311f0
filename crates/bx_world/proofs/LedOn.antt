-- A world that is led goes on so, by what its machines hear and by datagrams that arrive.
use Rattle.std.proofs.Common.{◌≡◌, ◌≢◌, ◌∙◌, ⊎_elim, ℕ, ◌+◌, ◌≤◌, false, List, [], ◌∷◌, ◌++◌, length, Option, None, Some, IfSome, refl, sym, subst, map, arith}
use Rattle.std.specs.Prelude.{reverse, slice_get}
use Rattle.std.proofs.lemmas.Bool.{false_from_ne_true}
use Rattle.bx_base.specs.declared.names.Actor.{Actor}
use Rattle.bx_base.specs.declared.names.Actor.TheVariants.{Member, Node, Replica, Server}
use Rattle.bx_cluster.specs.declared.outcome.Outcome.{Outcome}
use Rattle.bx_desk.specs.Desks.{AtDesk}
use Rattle.bx_desk.proofs.Serving.{desk_same}
use Rattle.bx_disk.specs.Disks.{Disks}
use Rattle.bx_facts.specs.declared.owners.Owners as owners
use Rattle.bx_facts.specs.declared.register.Register as register
use Rattle.bx_facts.specs.declared.store.Store as store
use Rattle.bx_facts.specs.Writes.{Asked, Made}
use Rattle.bx_history.specs.Account.{AwaitsNewest}
use Rattle.bx_history.specs.Parts.{Arrival, Part, trace_of, waiting}
use Rattle.bx_history.specs.Placed.{Repeat}
use Rattle.bx_history.specs.Trace.{Taking, taken_count}
use Rattle.bx_history.proofs.OnePart.{going, lines_lack, part_with, took_lines}
use Rattle.bx_history.proofs.Serving.{Served, entry_by, is_among}
use Rattle.bx_world_machines.specs.bx_node_calls.specs.Turns.{Rounded, acting_at, acting_in}
use Rattle.bx_world_machines.specs.bx_node_calls.specs.Waits.{Waits}
use Rattle.bx_node_steps.proofs.Answering.{fits_numbered}
use Rattle.bx_node_steps.specs.Calls.{Acting, CallOf}
use Rattle.bx_node_steps.specs.Ready.{WasReady}
use Rattle.bx_node_steps.specs.declared.machine.Machine.{Machine}
use Rattle.bx_node_tries.specs.Tries.{LeadsBack}
use Rattle.bx_node_tries.specs.declared.round.Said.{Said}
use Rattle.bx_script.specs.declared.trace_line.TraceLine.{TraceLine}
use Rattle.bx_views.specs.declared.engine.Engine as engine
use Rattle.bx_world.specs.Going.{Says, Went}
use Rattle.bx_cluster.specs.Runs.{StepOf, rules}
use Rattle.bx_world.specs.Led.{AreDesks, AreLeft, Led}
use Rattle.bx_world.specs.Outcomes.{IsBy, desks_said, nothing, outcome_said}
use Rattle.bx_world.specs.World.{IsReady, StandsBehind}
use Rattle.bx_world.specs.declared.world.World.{World}
use Rattle.bx_world.proofs.Doubted.{IsPartOf, doubted_led, lines_pointed, logged_led, none_in}
use Rattle.bx_world.proofs.Leads.{AnswersAt, Comes, accounts_then, answers_at_node, answers_none, counted_then, desks_then, left_then}
use Rattle.bx_world.proofs.Restarting.{part_told, stops_led}
use Rattle.bx_world.proofs.Saying.{among_answered, answered_among, lines_told, served_back}
use Rattle.bx_world_machines.specs.Answering.{Answered}

-- ---- records that are written

numbered_in : (made : Made) (areas : ℕ) (asked : Option Asked) (found : Option Machine) → IfSome found (WasReady made areas asked) → (acts : Acting) → acting_in found ≡ Some acts → acts.point.call ≡ acts.call.number
numbered_in made areas asked None ready acts is = absurd cc
numbered_in made areas asked (Some machine) ready acts is = subst (λ (under : Option Acting). IfSome under (λ a. a.point.call ≡ a.call.number)) is (fits_numbered machine.cache.areas machine ready.ready.fits)

-- a record that is written has the number of its call
abbrev pub AreNamed : List Machine → Type 0
AreNamed machines = (at : ℕ) (acts : Acting) → acting_at machines at ≡ Some acts → acts.point.call ≡ acts.call.number

module _ {G O S E T : Type 0} (g : register.Ghosts G) (o : owners.Ghosts O) (st : store.Ghosts S) (e : engine.Ghosts E T) where
  pub are_named : (world : World G O S E T) (sizes : List ℕ) → IsReady g o st e world sizes → AreNamed world.machines.nodes.machines.items
  are_named world sizes ready at acts is = numbered_in _ _ _ (slice_get world.machines.nodes.machines.items at) (ready.machines.are_ready.nodes.ready at) acts is

  module _ (old new : World G O S E T) (x y : Disks) (first : T) (parts : List Part) (led : Led g o st e old x first parts) (named : AreNamed new.machines.nodes.machines.items) (same_engine : new.machines.nodes.engine ≡ old.machines.nodes.engine) where
    -- ---- in a part

    module _ (arrives : Option Arrival) (reading : Option ℕ) (taken : Option Taking) (again : Option Repeat) (node : ℕ) (Waited : ℕ → CallOf → Type 0) (written : ℕ → Option Acting) (said : List Said)
        (comes : Comes (e.at_once old.machines.nodes.engine) parts arrives reading taken again Waited written (served_back node said)) (answers : AnswersAt reading node Waited written new.machines.nodes.machines.items said) where
      abbrev now : List Part
      now = part_with (going arrives reading false) taken (served_back node said) again ∷ parts

      accounts_now : (next : T) → LeadsBack (e.step old.machines.nodes.engine) led.tree (reverse said) next → AwaitsNewest (StepOf (e.step old.machines.nodes.engine)) (rules (e.at_once old.machines.nodes.engine)) first now (map entry_by (served_back node said) ++ led.history) next (waiting now)
      accounts_now = accounts_then (e.step old.machines.nodes.engine) (e.at_once old.machines.nodes.engine) first parts led.history led.tree led.accounts arrives reading taken again node Waited written new.machines.nodes.machines.items said comes answers

      left_now : AreLeft new.machines.nodes.machines.items now
      left_now = left_then (e.step old.machines.nodes.engine) (e.at_once old.machines.nodes.engine) first parts led.history led.tree led.accounts arrives reading taken again node Waited written new.machines.nodes.machines.items said comes answers named

      -- what is taken has a number behind all that came
      behind_all : (number : ℕ) → number ≤ old.machines.latest → IfSome taken (λ taking. taking.call ≢ number)
      behind_all number low = by taken comes.number
        where
          by : (one : Option Taking) → IfSome one (λ taking. taking.call ≡ taken_count (trace_of parts) + 1) → IfSome one (λ taking. taking.call ≢ number)
          by None is = tt
          by (Some taking) is = λ same. let count = led.counted in omega (arith, is, same, low, count)

      is_part : IsPartOf old.machines.latest said (part_with (going arrives reading false) taken (served_back node said) again)
      is_part = record {
        lacks = λ number low. lines_lack taken (served_back node said) again number (behind_all number low);
        unpointed = λ number unanswered. lines_pointed taken (served_back node said) again number ∙ false_from_ne_true (is_among (served_back node said) number) (λ is. unanswered (among_answered node said number is));
        pointed = λ number answered. lines_pointed taken (served_back node said) again number ∙ answered_among node said number answered;
      }

      pub led_with : Rounded e old.machines.nodes.engine (StandsBehind g o st e led.stands.course said new y) led.tree said → new.machines.latest ≡ taken_count (took_lines taken ++ trace_of parts) → AreDesks new.desks.items now → Led g o st e new y first now
      led_with rounded latest desks = record {
        tree = rounded.next;
        history = map entry_by (served_back node said) ++ led.history;
        accounts = subst (λ (engine : E). AwaitsNewest (StepOf (e.step engine)) (rules (e.at_once engine)) first now (map entry_by (served_back node said) ++ led.history) rounded.next (waiting now)) (sym same_engine)
            (accounts_now rounded.next rounded.leads);
        stands = rounded.stands.stands;
        doubted = doubted_led g o st e old new x y first rounded.next parts led (part_with (going arrives reading false) taken (served_back node said) again) said is_part rounded.stands
            (accounts_now rounded.next rounded.leads).pending (none_in _ _ _ _ _ _ _ (accounts_now rounded.next rounded.leads)) left_now;
        logged = logged_led g o st e old new x y first rounded.next parts led (part_with (going arrives reading false) taken (served_back node said) again) said is_part rounded.stands
            (accounts_now rounded.next rounded.leads).pending (none_in _ _ _ _ _ _ _ (accounts_now rounded.next rounded.leads)) left_now;
        counted = latest ∙ sym (counted_then (e.step old.machines.nodes.engine) (e.at_once old.machines.nodes.engine) first parts led.history led.tree led.accounts arrives reading taken again node Waited written new.machines.nodes.machines.items said comes answers);
        desks = desks;
        left = left_now;
      }

      pub desks_told : (before : List AtDesk) → AreDesks before (part_with (going arrives reading false) taken [] None ∷ parts) → new.desks.items ≡ desks_said (Node node) said before → AreDesks new.desks.items now
      desks_told before are is = subst (λ (l : List AtDesk). AreDesks l now) (sym is)
          (desks_then (e.step old.machines.nodes.engine) (e.at_once old.machines.nodes.engine) first parts led.history led.tree led.accounts arrives reading taken again node Waited written new.machines.nodes.machines.items said comes answers before are)

    -- ---- nothing is taken

    module _ (arrives : Option Arrival) (reading : Option ℕ) where
      -- what was on the desks is there before anything is answered
      pub desks_untaken : AreDesks old.desks.items (part_with (going arrives reading false) None [] None ∷ parts)
      desks_untaken at desk there = desk_same at parts (part_with (going arrives reading false) None [] None ∷ parts) desk (record { waits = refl; sent = refl }) (led.desks at desk there)

    -- a node answered, and its desk keeps that
    pub told_led : (arrives : Option Arrival) (reading : Option ℕ) (node : ℕ) (said : List Said) → Comes (e.at_once old.machines.nodes.engine) parts arrives reading None None (Waits old.machines.nodes.machines.items) (acting_at old.machines.nodes.machines.items) (served_back node said)
        → Answered reading (Node node) old.machines.nodes.machines.items new.machines.nodes.machines.items said → Rounded e old.machines.nodes.engine (StandsBehind g o st e led.stands.course said new y) led.tree said
        → new.machines.latest ≡ old.machines.latest → new.desks.items ≡ desks_said (Node node) said old.desks.items → Led g o st e new y first (part_told arrives reading [] (outcome_said (Node node) said) ∷ parts)
    told_led arrives reading node said comes answers rounded latest desks =
        let answered = answers_at_node reading node old.machines.nodes.machines.items new.machines.nodes.machines.items said answers in
        subst (λ (l : List TraceLine). Led g o st e new y first (record { what = going arrives reading false; lines = l } ∷ parts)) (sym (lines_told node said [] []))
        (led_with arrives reading None None node (Waits old.machines.nodes.machines.items) (acting_at old.machines.nodes.machines.items) said comes answered rounded (latest ∙ led.counted)
        (desks_told arrives reading None None node (Waits old.machines.nodes.machines.items) (acting_at old.machines.nodes.machines.items) said comes answered old.desks.items (desks_untaken arrives reading) desks))

    -- ---- a machine heard something

    module _ (reading : Option ℕ) (at : Actor) (Tells : Type 0) (tells : Tells) (outcome : Outcome) where
      -- where nothing arrives, and nothing is sent again, what waits is what waited
      comes_none : (all : List Served) → Comes (e.at_once old.machines.nodes.engine) parts None reading None None (Waits old.machines.nodes.machines.items) (acting_at old.machines.nodes.machines.items) all
      comes_none all = record {
        takes = refl;
        number = tt;
        waits = led.left.waits;
        at_once = tt;
        acting = λ n acts is. ((led.left.acting n acts is).1, tt);
        repeats = refl;
        sent = tt;
      }

      says_led : Says g o st e reading at old new Tells x y outcome → Led g o st e new y first (part_told None reading [] outcome ∷ parts)
      says_led says = subst (λ (out : Outcome). Led g o st e new y first (part_told None reading [] out ∷ parts)) (sym says.outcome_is) (by at says.by says.answers says.desks)
        where
          said : List Said
          said = says.said

          rounded : Rounded e old.machines.nodes.engine (StandsBehind g o st e led.stands.course said new y) led.tree said
          rounded = says.leads tells led.tree led.stands.course (led.stands, refl)

          -- a machine that is no node answers nothing
          none : (who : Actor) → said ≡ [] → Answered reading who old.machines.nodes.machines.items new.machines.nodes.machines.items said → new.desks.items ≡ old.desks.items → Led g o st e new y first (part_told None reading [] nothing ∷ parts)
          none who empty answers desks =
              let answered = answers_none reading who old.machines.nodes.machines.items new.machines.nodes.machines.items (subst (Answered reading who old.machines.nodes.machines.items new.machines.nodes.machines.items) empty answers) in
              led_with None reading None None 0 (Waits old.machines.nodes.machines.items) (acting_at old.machines.nodes.machines.items) [] (comes_none []) answered (subst (λ (l : List Said). Rounded e old.machines.nodes.engine (StandsBehind g o st e led.stands.course l new y) led.tree l) empty rounded) (says.latest ∙ led.counted)
              (subst (λ (l : List AtDesk). AreDesks l (part_with (going None reading false) None [] None ∷ parts)) (sym desks) (desks_untaken None reading))

          by : (who : Actor) → IsBy (length old.desks.items) who said → Answered reading who old.machines.nodes.machines.items new.machines.nodes.machines.items said → new.desks.items ≡ desks_said who said old.desks.items
              → Led g o st e new y first (part_told None reading [] (outcome_said who said) ∷ parts)
          by (Node n) there answers desks = told_led None reading n said (comes_none (served_back n said)) answers rounded says.latest desks
          by (Replica n) empty answers desks = none (Replica n) empty answers desks
          by (Server n) empty answers desks = none (Server n) empty answers desks
          by (Member n) empty answers desks = none (Member n) empty answers desks

      pub went_led : Went g o st e reading at old new Tells x y outcome → Led g o st e new y first (part_told None reading [] outcome ∷ parts)
      went_led went = ⊎_elim says_led (λ stops. stops_led g o st e old new x y first parts led reading at Tells tells outcome stops) went

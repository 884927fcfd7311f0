-- A world that is led goes on so by datagrams that arrive at its nodes.
use Rattle.std.proofs.Common.{Bor, ◌≡◌, ◌≢◌, ◌⊎◌, ◌∙◌, ⊎_elim, ℕ, suc, ◌+◌, Bool, true, false, List, [], ◌∷◌, Option, None, Some, inl, inr, refl, sym, ap, subst, arith}
use Rattle.std.specs.Prelude.{◌==◌, ◌↔◌, if◌then◌else◌, max, slice_get, slice_set}
use Rattle.std.proofs.lemmas.Bool.{eq-eqb, eqb-true, ne_eqb}
use Rattle.bx_cluster.specs.Steps.{part_at, took_lines}
use Rattle.bx_cluster.specs.declared.outcome.Outcome.{Outcome}
use Rattle.bx_desk.specs.Desks.{AtDesk, with_call}
use Rattle.bx_desk.specs.Nodes.{IsDeskOf}
use Rattle.bx_desk.proofs.Going.{desk_stays, desk_taken}
use Rattle.bx_desk.proofs.Hearing as at_desk
use Rattle.bx_disk.specs.Disks.{Disks}
use Rattle.bx_facts.specs.declared.owners.Owners as owners
use Rattle.bx_facts.specs.declared.register.Register as register
use Rattle.bx_facts.specs.declared.store.Store as store
use Rattle.bx_history.specs.Parts.{Arrival, Part, trace_of, trace_since, waiting}
use Rattle.bx_history.specs.Placed.{Repeat}
use Rattle.bx_history.specs.Trace.{IsIn, Taking, taken_count}
use Rattle.bx_history.proofs.OnePart.{awaits_before, going, part_with}
use Rattle.bx_history.proofs.Serving.{taken_waits}
use Rattle.bx_world_machines.specs.bx_node_calls.proofs.Found.{same_or}
use Rattle.bx_world_machines.specs.bx_node_calls.specs.Turns.{acting_at}
use Rattle.bx_world_machines.specs.bx_node_calls.specs.Waits.{AreNumbered, Waits}
use Rattle.bx_node_steps.specs.Calls.{Acting, CallOf, call_of}
use Rattle.bx_node_tries.specs.declared.round.Said.{Said}
use Rattle.bx_node_tries.specs.declared.round.Waiting.{Waiting}
use Rattle.bx_script.specs.declared.trace_line.TraceLine.{TraceLine}
use Rattle.bx_script.specs.declared.trace_line.TraceLine.TheVariants.{Took}
use Rattle.bx_views.specs.declared.engine.Engine as engine
use Rattle.bx_world.specs.Calls.{Arrives, IsNewTo, IsPassed, Passes, Repeats, Takes, asked_of, sent_again}
use Rattle.bx_world.specs.Calls.IsPassed.{Crowded, NoCall, Waits as WaitsThere}
use Rattle.bx_cluster.specs.Runs.{StepOf, rules}
use Rattle.bx_world.specs.Led.{AreDesks, Led, taking_as}
use Rattle.bx_world.specs.World.{IsReady, StandsBehind}
use Rattle.bx_world.specs.declared.world.World.{World}
use Rattle.bx_world.proofs.Beginning.{acts_waits}
use Rattle.bx_world.proofs.Leading.{set_here, set_there}
use Rattle.bx_world.proofs.Leads.{Comes, WaitsWith, answers_called, answers_same, patient}
use Rattle.bx_world.proofs.Doubted.{behind_by}
use Rattle.bx_world.proofs.LedOn.{AreNamed, are_named, desks_told, led_with, told_led}
use Rattle.bx_world.proofs.Restarting.{part_told}
use Rattle.bx_world.proofs.Saying.{answered_among, lines_told, served_back}
use Rattle.bx_world_events.specs.declared.event.Event.TheVariants.{Call}

abbrev pub arrival_of : ℕ → ℕ → List ℕ → Arrival
arrival_of node client bytes = record { node = node; client = client; bytes = bytes }

-- by its desk
passed_by : (touchless : List ℕ → Type 0) (node : ℕ) (parts : List Part) (desk : AtDesk) → IsDeskOf node parts desk → (client : ℕ) (bytes : List ℕ) → IsPassed desk client bytes → at_desk.IsPassed (rules touchless) parts (arrival_of node client bytes)
passed_by touchless node parts desk is client bytes (NoCall none) = at_desk.no_call (rules touchless) refl refl node parts desk is client bytes none
passed_by touchless node parts desk is client bytes (WaitsThere call waits) = at_desk.waits_still (rules touchless) refl refl node parts desk is client bytes call waits
passed_by touchless node parts desk is client bytes (Crowded call none full) = at_desk.crowded (rules touchless) refl refl node parts desk is client bytes call none full

-- one that is taken is in front of those that wait at its node
in_taken : (t other : Taking) (at : ℕ) (b : Bool) → (t.node == at) ≡ b → (waits : List Taking) → (IsIn other waits ⊎ ((at ≡ t.node) × (t ≡ other))) ↔ IsIn other (if b then t ∷ waits else waits)
in_taken t other at true is waits = (
  λ there. ⊎_elim (λ before. inr before) (λ this. inl this.1) there,
  λ there. ⊎_elim (λ this. inr (sym (eqb-true t.node at is), this)) (λ before. inl before) there,
)
in_taken t other at false is waits = (
  λ there. ⊎_elim (λ before. before) (λ this. absurd (let wrong : (t.node == at) ≡ true = eq-eqb t.node at (sym this.0) in cc)) there,
  λ there. inl there,
)

module _ {G O S E T : Type 0} (g : register.Ghosts G) (o : owners.Ghosts O) (st : store.Ghosts S) (e : engine.Ghosts E T) (reading node : ℕ) (old new : World G O S E T) (x : Disks) (first : T) (parts : List Part) (led : Led g o st e old x first parts) (outcome : Outcome) where
  -- what touches no block
  abbrev touchless : List ℕ → Type 0
  touchless = e.at_once old.machines.nodes.engine

  -- ---- it isn't taken

  passes_led : (client : ℕ) (bytes : List ℕ) → AreNamed new.machines.nodes.machines.items → Passes g o st e reading node client bytes old new x outcome → Led g o st e new x first (part_told (Some (arrival_of node client bytes)) (Some reading) [] outcome ∷ parts)
  passes_led client bytes named passes =
      let is = passed_by touchless node parts passes.desk (led.desks node passes.desk passes.there) client bytes passes.passed in
      let turns = passes.turns in
      subst (λ (out : Outcome). Led g o st e new x first (part_told (Some (arrival_of node client bytes)) (Some reading) [] out ∷ parts)) (sym turns.outcome_is)
      (told_led g o st e old new x x first parts led named turns.engine (Some (arrival_of node client bytes)) (Some reading) node turns.said
      (record {
        takes = sym is.not_taken;
        number = tt;
        waits = led.left.waits;
        at_once = tt;
        acting = λ at acts is. ((led.left.acting at acts is).1, tt);
        repeats = sym is.no_repeat;
        sent = tt;
      })
      turns.answers (turns.leads led.tree led.stands.course (led.stands, refl)) turns.latest turns.desks)

  -- ---- a kept answer is sent again

  repeats_led : (client : ℕ) (bytes : List ℕ) → AreNamed old.machines.nodes.machines.items → Repeats g o st e reading node client bytes old new x outcome → Led g o st e new x first (part_told (Some (arrival_of node client bytes)) (Some reading) [] outcome ∷ parts)
  repeats_led client bytes named repeats =
      let noted : World G O S E T = record old { machines = record old.machines { clock = max old.machines.clock reading }; events = old.events + 1 } in
      let kept = repeats.kept in
      let is = at_desk.was_answered (rules touchless) refl refl node parts repeats.desk (led.desks node repeats.desk repeats.there) client bytes repeats.reply kept.message (led.accounts.split node) kept.apart kept.not_waiting kept.kept in
      let again : Option Repeat = Some (record { node = node; client = client; reply = repeats.reply }) in
      subst (λ (out : Outcome). Led g o st e new x first (part_told (Some (arrival_of node client bytes)) (Some reading) [] out ∷ parts)) (sym repeats.outcome_is)
      (subst (λ (w : World G O S E T). Led g o st e w x first (part_told (Some (arrival_of node client bytes)) (Some reading) [] (sent_again node client repeats.reply) ∷ parts)) (sym repeats.same)
      (led_with g o st e old noted x x first parts led named refl (Some (arrival_of node client bytes)) (Some reading) None again node (Waits old.machines.nodes.machines.items) (acting_at old.machines.nodes.machines.items) []
      (record {
        takes = sym is.not_taken;
        number = tt;
        waits = led.left.waits;
        at_once = tt;
        acting = λ at acts is. ((led.left.acting at acts is).1, tt);
        repeats = sym is.repeats;
        sent = is.sent;
      })
      (answers_same (Some reading) node old.machines.nodes.machines.items)
      (record {
        next = led.tree;
        leads = refl;
        stands = subst (λ (w : World G O S E T). StandsBehind g o st e led.stands.course [] w x led.tree) repeats.same (behind_by g o st e led.stands.course new x led.tree (repeats.stands led.tree led.stands.course (led.stands, refl)));
      })
      led.counted
      (λ at desk there. desk_stays at parts (part_with (going (Some (arrival_of node client bytes)) (Some reading) false) None [] again ∷ parts) desk (led.desks at desk there) refl refl)))

  -- ---- it is taken

  module _ (numbered : AreNumbered old.machines.latest old.machines.nodes.machines.items) (named : AreNamed new.machines.nodes.machines.items) (client : ℕ) (bytes : List ℕ) (takes : Takes g o st e reading node client bytes old new x outcome)
      (is_new : IsNewTo takes.desk takes.call.client takes.call.message) where
    abbrev call : Waiting
    call = takes.call

    abbrev taking : Taking
    taking = taking_as node (call_of call)

    abbrev here : Arrival
    here = arrival_of node call.client call.message

    abbrev part_taken : Part
    part_taken = part_with (going (Some here) (Some reading) false) (Some taking) [] None

    its_desk : IsDeskOf node parts takes.desk
    its_desk = led.desks node takes.desk takes.there

    number : taking.call ≡ taken_count (trace_of parts) + 1
    number = takes.number ∙ ap (λ (n : ℕ). n + 1) led.counted

    waits_then : (at : ℕ) → waiting (part_taken ∷ parts) at ≡ (if taking.node == at then taking ∷ waiting parts at else waiting parts at)
    waits_then at = taken_waits 256 (trace_of parts) led.history led.accounts.fits taking number at (trace_since parts at) (awaits_before (StepOf (e.step old.machines.nodes.engine)) (rules touchless) (patient touchless) first parts led.history led.tree led.accounts at)

    -- those that wait then, and the records that are written
    abbrev Waited : ℕ → CallOf → Type 0
    Waited = WaitsWith node call old.machines.nodes.machines.items

    abbrev written : ℕ → Option Acting
    written = acting_at old.machines.nodes.machines.items

    comes : Comes touchless parts (Some here) (Some reading) (Some taking) None Waited written (served_back node takes.said)
    comes =
        let is = at_desk.is_new (rules touchless) refl refl node parts takes.desk its_desk call.client call.message is_new.message is_new.not_waiting is_new.none_kept is_new.room in
        record {
          takes = sym is.is_taken;
          number = number;
          waits = waits;
          at_once = λ touches. answered_among node takes.said call.number (takes.at_once touches);
          acting = λ at acts before. ((led.left.acting at acts before).1, λ same. older at acts before same);
          repeats = sym is.no_repeat;
          sent = tt;
        }
      where
        older : (at : ℕ) (acts : Acting) → acting_at old.machines.nodes.machines.items at ≡ Some acts → taking.call ≢ acts.call.number
        older at acts before same =
            let most = numbered.most at acts.call (acts_waits (slice_get old.machines.nodes.machines.items at) acts before) in
            let next = takes.number in
            omega (arith, most, next, same)

        calls : (other : CallOf) (at : ℕ) → at ≡ node → call_of call ≡ other → taking ≡ taking_as at other
        calls other at same is = ap (λ (c : CallOf). taking_as node c) is ∙ ap (λ (n : ℕ). taking_as n other) (sym same)

        call_is : (other : CallOf) (at : ℕ) → taking ≡ taking_as at other → call_of call ≡ other
        call_is other at is = ap (λ (t : Taking). record { number = t.call; client = t.client; bytes = t.bytes }) is

        waits : (at : ℕ) (other : CallOf) → Waited at other ↔ IsIn (taking_as at other) (waiting (part_taken ∷ parts) at)
        waits at other =
            let both = in_taken taking (taking_as at other) at (taking.node == at) refl (waiting parts at) in (
              λ w. subst (IsIn (taking_as at other)) (sym (waits_then at)) (both.0 (⊎_elim (λ before. inl ((led.left.waits at other).0 before)) (λ this. inr (this.0, calls other at this.0 this.1)) w)),
              λ there. ⊎_elim (λ before. inl ((led.left.waits at other).1 before)) (λ this. inr (this.0, call_is other at this.1)) (both.1 (subst (IsIn (taking_as at other)) (waits_then at) there)),
            )

    -- it waits on the desk
    desks_taken : AreDesks (slice_set old.desks.items node (with_call takes.desk (asked_of call))) (part_taken ∷ parts)
    desks_taken at desk there = ⊎_elim
        (λ same.
        let after : with_call takes.desk (asked_of call) ≡ desk =
        some_is (with_call takes.desk (asked_of call)) desk (sym (set_here old.desks.items node (with_call takes.desk (asked_of call)) takes.desk takes.there) ∙ ap (slice_get (slice_set old.desks.items node (with_call takes.desk (asked_of call)))) same ∙ there) in
        subst (λ (n : ℕ). IsDeskOf n (part_taken ∷ parts) desk) same (subst (IsDeskOf node (part_taken ∷ parts)) after
        (desk_taken node parts (part_taken ∷ parts) takes.desk (asked_of call) its_desk (waits_then node ∙ ap (λ (b : Bool). if b then taking ∷ waiting parts node else waiting parts node) (eq-eqb node node refl)) refl is_new.not_waiting is_new.none_kept)))
        (λ apart. desk_stays at parts (part_taken ∷ parts) desk (led.desks at desk (sym (set_there old.desks.items node at (with_call takes.desk (asked_of call)) (λ e. apart (sym e))) ∙ there))
        (waits_then at ∙ ap (λ (b : Bool). if b then taking ∷ waiting parts at else waiting parts at) (ne_eqb node at apart)) refl)
        (same_or node at)
      where
        some_is : (a b : AtDesk) → Some a ≡ Some b → a ≡ b
        some_is a b e = cc

    takes_led : Led g o st e new x first (part_told (Some here) (Some reading) (Took call.number node call.client call.message ∷ []) outcome ∷ parts)
    takes_led =
        let said : List Said = takes.said in
        let answered = answers_called reading node old.machines.latest call old.machines.nodes.machines.items new.machines.nodes.machines.items numbered (let next = takes.number in omega (arith, next)) said takes.answers in
        let latest : new.machines.latest ≡ suc (taken_count (trace_of parts)) = (let next = number in let is = takes.latest in omega (arith, next, is)) in
        subst (λ (out : Outcome). Led g o st e new x first (part_told (Some here) (Some reading) (Took call.number node call.client call.message ∷ []) out ∷ parts)) (sym takes.outcome_is)
        (subst (λ (l : List TraceLine). Led g o st e new x first (record { what = going (Some here) (Some reading) false; lines = l } ∷ parts)) (sym (lines_told node said (Took call.number node call.client call.message ∷ []) []))
        (led_with g o st e old new x x first parts led named takes.engine (Some here) (Some reading) (Some taking) None node Waited written said comes answered (takes.leads led.tree led.stands.course (led.stands, refl)) latest
        (desks_told g o st e old new x x first parts led named takes.engine (Some here) (Some reading) (Some taking) None node Waited written said comes answered (slice_set old.desks.items node (with_call takes.desk (asked_of call))) desks_taken takes.desks)))

-- ---- a datagram arrives

module _ {G O S E T : Type 0} (g : register.Ghosts G) (o : owners.Ghosts O) (st : store.Ghosts S) (e : engine.Ghosts E T) (reading node client : ℕ) (bytes : Bor (List ℕ)) (old new : World G O S E T) (x : Disks) (outcome : Outcome) (sizes : List ℕ)
    (was_ready : IsReady g o st e old sizes) (ready : IsReady g o st e new sizes) (first : T) (parts : List Part) (led : Led g o st e old x first parts) where
  -- by the number of the call that was taken, or none
  abbrev told_with : Option ℕ → Part
  told_with took = part_told (Some (arrival_of node client bytes.now)) (Some reading) (took_lines (Call reading node client bytes) took) outcome

  tells : (took : Option ℕ) → outcome.took ≡ took → Led g o st e new x first (told_with took ∷ parts) → Led g o st e new x first (part_at (Call reading node client bytes) outcome ∷ parts)
  tells took is = subst (λ (k : Option ℕ). Led g o st e new x first (told_with k ∷ parts)) (sym is)

  some_desk : (a b : AtDesk) → Some a ≡ Some b → a ≡ b
  some_desk a b same = cc

  taken : (desk : AtDesk) → slice_get old.desks.items node ≡ Some desk → IsNewTo desk client bytes.now → Takes g o st e reading node client bytes.now old new x outcome → Led g o st e new x first (part_at (Call reading node client bytes) outcome ∷ parts)
  taken desk there is_new takes =
      let same : desk ≡ takes.desk = some_desk desk takes.desk (sym there ∙ takes.there) in
      let is : IsNewTo takes.desk takes.call.client takes.call.message =
      subst (IsNewTo takes.desk takes.call.client) (sym takes.bytes_are) (subst (λ (c : ℕ). IsNewTo takes.desk c bytes.now) (sym takes.client_is) (subst (λ (d : AtDesk). IsNewTo d client bytes.now) same is_new)) in
      let told = takes_led g o st e reading node old new x first parts led outcome was_ready.machines.are_ready.numbered (are_named g o st e new sizes ready) client bytes.now takes is in
      tells (Some takes.call.number) (ap (λ (out : Outcome). out.took) takes.outcome_is)
      (subst (λ (b : List ℕ). Led g o st e new x first (part_told (Some (arrival_of node client b)) (Some reading) (Took takes.call.number node client b ∷ []) outcome ∷ parts)) takes.bytes_are
      (subst (λ (c : ℕ). Led g o st e new x first (part_told (Some (arrival_of node c takes.call.message)) (Some reading) (Took takes.call.number node c takes.call.message ∷ []) outcome ∷ parts)) takes.client_is told))

  pub arrives_led : Arrives g o st e reading node client bytes.now old new x outcome → Led g o st e new x first (part_at (Call reading node client bytes) outcome ∷ parts)
  arrives_led arrives = ⊎_elim
      (λ new_one. taken new_one.0 new_one.1 new_one.2 new_one.3)
      (λ known. ⊎_elim
      (λ passes. tells None (ap (λ (out : Outcome). out.took) passes.turns.outcome_is) (passes_led g o st e reading node old new x first parts led outcome client bytes.now (are_named g o st e new sizes ready) passes))
      (λ repeats. tells None (ap (λ (out : Outcome). out.took) repeats.outcome_is) (repeats_led g o st e reading node old new x first parts led outcome client bytes.now (are_named g o st e old sizes was_ready) repeats))
      known)
      arrives

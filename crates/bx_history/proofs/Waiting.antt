-- An account goes on by a part, in a stage in which calls wait: nothing arrives, or what isn't taken; an answer is sent again; a call that waits is answered.
use Rattle.std.proofs.Common.{◌≡◌, ℕ, Bool, true, false, List, [], ◌∷◌, Option, Some, None, refl, sym, ap, subst, ◌∙◌, eqb}
use Rattle.std.specs.Prelude.{◌≢◌, not, filter, ◌==◌, if◌then◌else◌}
use Rattle.std.specs.List.{AllByRecursion}
use Rattle.std.proofs.lemmas.Bool.{ne_eqb, or_right}
use Rattle.bx_base.specs.declared.names.Point.{Point}
use Rattle.bx_script.specs.declared.trace_line.TraceLine.{TraceLine}
use Rattle.bx_script.specs.declared.trace_line.TraceLine.TheVariants.{Acted, Again, Reply}
use Rattle.bx_history.specs.Trace.{Entry, IsIn, IsSentBefore, Taking, takings, taking_of}
use Rattle.bx_history.specs.Parts.{Arrival, Part, trace_of, trace_since, waiting}
use Rattle.bx_history.specs.Placed.{Rules, HasReadingSince, IsAnsweredAtOnce, again_by, taken_by}
use Rattle.bx_history.specs.Along.{none_ends}
use Rattle.bx_history.specs.Account.{AreNewestFirst, AwaitsNewest, IsPatient, IsPending, answers_at, entry_for}
use Rattle.bx_history.proofs.Lists.{all_mapped, filter_all, in_filter, one_of}
use Rattle.bx_history.proofs.OnePart.{awaits_before, no_prompt, part_served}
use Rattle.bx_history.proofs.Serving.{Awaits, IsDue, IsKnown, Served, awaits_served, known_since, served_fits, served_one}
use Rattle.bx_history.proofs.Unanswered.{fewer}

module _ {Tree : Type 0} (Step : Tree → Entry → Tree → Type 0) (rules : Rules) (patient : IsPatient rules) where
  -- ---- what waits is what the parts leave waiting

  pub awaits_own : (first : Tree) (parts : List Part) (history : List Entry) (last : Tree) (waits : ℕ → List Taking)
      → AwaitsNewest Step rules first parts history last waits → AwaitsNewest Step rules first parts history last (waiting parts)
  awaits_own first parts history last waits so_far = record {
    fits = so_far.fits;
    leads = so_far.leads;
    placed = so_far.placed;
    waiting_are = λ node. refl;
    pending = λ node. subst (AllByRecursion (IsPending (trace_of parts) node)) (sym (so_far.waiting_are node)) (so_far.pending node);
    in_order = λ node. subst AreNewestFirst (sym (so_far.waiting_are node)) (so_far.in_order node);
    split = so_far.split;
  }

  pub awaits_these : (first : Tree) (parts : List Part) (history : List Entry) (last : Tree) (waits : ℕ → List Taking) → ((node : ℕ) → waiting parts node ≡ waits node)
      → AwaitsNewest Step rules first parts history last (waiting parts) → AwaitsNewest Step rules first parts history last waits
  awaits_these first parts history last waits are so_far = record {
    fits = so_far.fits;
    leads = so_far.leads;
    placed = so_far.placed;
    waiting_are = are;
    pending = λ node. subst (AllByRecursion (IsPending (trace_of parts) node)) (are node) (so_far.pending node);
    in_order = λ node. subst AreNewestFirst (are node) (so_far.in_order node);
    split = so_far.split;
  }

  module _ (first : Tree) (parts : List Part) (history : List Entry) (last : Tree) (waits : ℕ → List Taking) where
    -- ---- a part in which nothing arrives

    pub quiet_part : (reading : Option ℕ) (runs : Bool) → AwaitsNewest Step rules first parts history last waits
        → AwaitsNewest Step rules first (record { what = record { arrives = None; reading = reading; ends = none_ends; runs = runs }; lines = [] } ∷ parts) history last waits
    quiet_part reading runs so_far = awaits_these first _ history last waits so_far.waiting_are
        (part_served Step rules patient first parts history last (awaits_own first parts history last waits so_far) None reading runs None [] None
        (record { takes = refl; number = tt; of = tt; waits = tt; others = tt; moments = tt; immediate = tt; repeats = refl; sent = tt }) last refl)

    -- ---- a part in which something arrives that isn't taken

    pub passed_part : (reading : ℕ) (arrival : Arrival)
        → taken_by rules parts (Some arrival) ≡ [] → again_by rules parts (Some arrival) ≡ [] → AwaitsNewest Step rules first parts history last waits
        → AwaitsNewest Step rules first (record { what = record { arrives = Some arrival; reading = Some reading; ends = none_ends; runs = false }; lines = [] } ∷ parts) history last waits
    passed_part reading arrival not_taken no_repeat so_far = awaits_these first _ history last waits so_far.waiting_are
        (part_served Step rules patient first parts history last (awaits_own first parts history last waits so_far) (Some arrival) (Some reading) false None [] None
        (record { takes = sym not_taken; number = tt; of = tt; waits = tt; others = tt; moments = tt; immediate = tt; repeats = sym no_repeat; sent = tt }) last refl)

    -- ---- a part in which an answer is sent again

    pub repeated_part : (reading : ℕ) (arrival : Arrival) (reply : List ℕ)
        → taken_by rules parts (Some arrival) ≡ [] → again_by rules parts (Some arrival) ≡ record { node = arrival.node; client = arrival.client; reply = reply } ∷ []
        → IsSentBefore rules.kept (trace_of parts) arrival.node arrival.client reply → AwaitsNewest Step rules first parts history last waits
        → AwaitsNewest Step rules first (record { what = record { arrives = Some arrival; reading = Some reading; ends = none_ends; runs = false }; lines = Again arrival.node arrival.client reply ∷ [] } ∷ parts) history last waits
    repeated_part reading arrival reply not_taken repeats sent so_far = awaits_these first _ history last waits so_far.waiting_are
        (part_served Step rules patient first parts history last (awaits_own first parts history last waits so_far) (Some arrival) (Some reading) false None [] (Some (record { node = arrival.node; client = arrival.client; reply = reply }))
        (record { takes = sym not_taken; number = tt; of = tt; waits = tt; others = tt; moments = tt; immediate = tt; repeats = sym repeats; sent = sent }) last refl)

  -- ---- a call that waits is answered, in a run

  module _ (first : Tree) (older : List Part) (history : List Entry) (last next : Tree) (reading : Option ℕ) (lines : List TraceLine) (taking : Taking) (point : Point) (reply : List ℕ) where
    -- the run, with what came in it before and now
    abbrev run_before : Part
    run_before = record { what = record { arrives = None; reading = reading; ends = none_ends; runs = true }; lines = lines }

    abbrev run_after : Part
    run_after = record { what = record { arrives = None; reading = reading; ends = none_ends; runs = true }; lines = Reply point.call reply ∷ Acted point ∷ lines }

    abbrev one : Served
    one = record { taking = taking; point = point; reply = reply }

    -- another number than that of the call
    abbrev is_other : Taking → Bool
    is_other t = not (eqb point.call t.call)

    -- the others wait on, at each node
    pub others_wait : (at : ℕ) → waiting (run_after ∷ older) at ≡ filter is_other (waiting (run_before ∷ older) at)
    others_wait at = fewer (trace_since (run_before ∷ older) at) at point.call

    module _ (so_far : AwaitsNewest Step rules first (run_before ∷ older) history last (waiting (run_before ∷ older))) (waited : IsIn taking (waiting (run_before ∷ older) taking.node))
        (of : point.call ≡ taking.call) (moment : HasReadingSince point.call point.moment (run_before ∷ older)) (step : Step last (entry_for taking point reply) next) where
      due : IsDue (trace_of (run_before ∷ older)) one
      due = record { of = of; pending = one_of (IsPending (trace_of (run_before ∷ older)) taking.node) (waiting (run_before ∷ older) taking.node) taking (so_far.pending taking.node) waited }

      there : (at : ℕ) → taking.node ≡ at → IsIn taking (takings (trace_since (run_before ∷ older) at))
      there at same = subst (λ (n : ℕ). IsIn taking (takings (trace_since (run_before ∷ older) n))) same (in_filter _ (takings (trace_since (run_before ∷ older) taking.node)) taking waited).0

      before_at : (at : ℕ) → Awaits at (trace_of (run_before ∷ older)) (trace_since (run_before ∷ older) at)
      before_at = awaits_before Step rules patient first (run_before ∷ older) history last so_far

      awaits_at : (at : ℕ) → Awaits at (trace_of (run_after ∷ older)) (trace_since (run_after ∷ older) at)
      awaits_at at = awaits_served at (trace_of (run_before ∷ older)) (trace_since (run_before ∷ older) at) (one ∷ []) (tt, tt) (due, tt) (there at, tt) (before_at at)

      known : (at : ℕ) → IsKnown (trace_since (run_before ∷ older) at) at one
      known at = (known_since at (trace_of (run_before ∷ older)) (trace_since (run_before ∷ older) at) (one ∷ []) (tt, tt) (due, tt) (there at, tt) (before_at at) (one ∷ []) (due, tt) (there at, tt)).0

      -- a call that waits at another node has another number
      other_at : (at : ℕ) (other : Taking) → at ≢ taking.node → IsPending (trace_of (run_before ∷ older)) at other → is_other other ≡ true
      other_at at other apart pending = ap not (ne_eqb point.call other.call (λ is. apart (sym pending.at ∙ ap (λ (t : Taking). t.node) (this is))))
        where
          this : point.call ≡ other.call → other ≡ taking
          this is =
              let found : taking_of (trace_of (run_before ∷ older)) point.call ≡ Some other = rw is pending.taken in
              let mine : taking_of (trace_of (run_before ∷ older)) point.call ≡ Some taking = rw of (due.pending.taken) in
              let both : Some other ≡ Some taking = sym found ∙ mine in
              cc

      pub elsewhere_same : (at : ℕ) → at ≢ taking.node → waiting (run_after ∷ older) at ≡ waiting (run_before ∷ older) at
      elsewhere_same at apart = others_wait at ∙ filter_all is_other (waiting (run_before ∷ older) at) (all_mapped _ _ (waiting (run_before ∷ older) at) (λ t pending. other_at at t apart pending) (so_far.pending at))

      -- its answer is the newest that its node sent, also since that ended
      pub one_more : (at : ℕ) → answers_at (trace_since (run_after ∷ older) at) at
          ≡ (if taking.node == at then record { node = taking.node; client = taking.client; bytes = taking.bytes; reply = reply } ∷ answers_at (trace_since (run_before ∷ older) at) at else answers_at (trace_since (run_before ∷ older) at) at)
      one_more at = served_one (trace_since (run_before ∷ older) at) at (one ∷ []) [] one (known at)

      pub answered_one : AwaitsNewest Step rules first (run_after ∷ older) (entry_for taking point reply ∷ history) next (waiting (run_after ∷ older))
      answered_one = record {
        fits = served_fits rules.kept (trace_of (run_before ∷ older)) history (one ∷ []) (tt, tt) (due, tt) so_far.fits;
        leads = (last, so_far.leads, step);
        placed = (
          record {
            takes = so_far.placed.0.takes;
            repeats = so_far.placed.0.repeats;
            immediate = all_mapped _ _ (takings lines) still_answered so_far.placed.0.immediate;
            prompt = λ is. absurd (no_prompt Step rules patient _ is);
            moments = (tt, (moment, so_far.placed.0.moments));
          },
          so_far.placed.1,
        );
        waiting_are = λ at. refl;
        pending = λ at. (awaits_at at).pending;
        in_order = λ at. (awaits_at at).in_order;
        split = λ at. (awaits_at at).split;
      }
        where
          still_answered : (t : Taking) → IsAnsweredAtOnce rules older run_before t → IsAnsweredAtOnce rules older run_after t
          still_answered t was at_once alive = let answered = was at_once alive in (or_right _ _ answered.0, or_right _ _ answered.1)

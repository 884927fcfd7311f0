-- An account goes on by a part in which a call is taken: it waits, or it acts and is answered in that part.
use Rattle.std.proofs.Common.{◌≡◌, ℕ, ◌+◌, Bool, true, false, List, [], ◌∷◌, Some, None, inl, refl, sym, ap, subst, ◌∙◌, arith, eqb}
use Rattle.std.specs.Prelude.{◌||◌, ◌&&◌, not, filter, ◌==◌, if◌then◌else◌}
use Rattle.std.proofs.lemmas.Bool.{ne_eqb}
use Rattle.bx_base.specs.declared.names.Point.{Point}
use Rattle.bx_script.specs.declared.trace_line.TraceLine.{TraceLine}
use Rattle.bx_script.specs.declared.trace_line.TraceLine.TheVariants.{Took, Acted, Reply}
use Rattle.bx_history.specs.Trace.{Answer, Entry, IsIn, Taking, taken_count, takings, taking_of, has_reply}
use Rattle.bx_history.specs.Parts.{Part, has_ended, trace_of, trace_since, waiting}
use Rattle.bx_history.specs.Placed.{Rules, again_by, taken_by}
use Rattle.bx_history.specs.Along.{none_ends}
use Rattle.bx_history.specs.Account.{AwaitsNewest, IsPatient, IsPending, answers_at, entry_for, waits_with}
use Rattle.bx_history.proofs.Lists.{all_mapped, filter_all}
use Rattle.bx_history.proofs.OnePart.{awaits_before, part_served}
use Rattle.bx_history.proofs.Serving.{IsKnown, Served, older, served_one, taken_waits}
use Rattle.bx_history.proofs.Unanswered.{fewer, same}
use Rattle.bx_history.proofs.Waiting.{awaits_own, awaits_these}

module _ {Tree : Type 0} (Step : Tree → Entry → Tree → Type 0) (rules : Rules) (patient : IsPatient rules) where
  module _ (first : Tree) (parts : List Part) (history : List Entry) (last : Tree) (waits : ℕ → List Taking) (reading : ℕ) (taking : Taking)
      (is_taken : taken_by rules parts (Some (record { node = taking.node; client = taking.client; bytes = taking.bytes })) ≡ record { node = taking.node; client = taking.client; bytes = taking.bytes } ∷ [])
      (no_repeat : again_by rules parts (Some (record { node = taking.node; client = taking.client; bytes = taking.bytes })) ≡ []) (number : taking.call ≡ taken_count (trace_of parts) + 1)
      (so_far : AwaitsNewest Step rules first parts history last waits) where
    abbrev taken_part : Part
    taken_part = record {
      what = record { arrives = Some (record { node = taking.node; client = taking.client; bytes = taking.bytes }); reading = Some reading; ends = none_ends; runs = false };
      lines = Took taking.call taking.node taking.client taking.bytes ∷ [];
    }

    own : AwaitsNewest Step rules first parts history last (waiting parts)
    own = awaits_own Step rules patient first parts history last waits so_far

    waiting_now : (node : ℕ) → waiting (taken_part ∷ parts) node ≡ waits_with taking waits node
    waiting_now node = taken_waits rules.kept (trace_of parts) history so_far.fits taking number node (trace_since parts node) (awaits_before Step rules patient first parts history last own node)
        ∙ ap (λ (l : List Taking). if taking.node == node then taking ∷ l else l) (so_far.waiting_are node)

    -- it may wait: it isn't answered at once, or its node ended before
    pub taken_call : (rules.IsImmediate reading taking.bytes → has_ended parts taking.node ≡ false → ⊥) → AwaitsNewest Step rules first (taken_part ∷ parts) history last (waits_with taking waits)
    taken_call not_due = awaits_these Step rules patient first (taken_part ∷ parts) history last (waits_with taking waits) waiting_now
        (part_served Step rules patient first parts history last own taken_part.what.arrives (Some reading) false (Some taking) [] None
        (record {
          takes = sym is_taken;
          number = number;
          of = tt;
          waits = tt;
          others = tt;
          moments = tt;
          immediate = λ at_once alive. absurd (not_due at_once alive);
          repeats = sym no_repeat;
          sent = tt;
        }) last refl)

    -- ---- it acts at once

    module _ (next : Tree) (point : Point) (reply : List ℕ) (of : point.call ≡ taking.call) (moment : point.moment ≡ reading) (step : Step last (entry_for taking point reply) next) where
      abbrev once_part : Part
      once_part = record {
        what = record { arrives = Some (record { node = taking.node; client = taking.client; bytes = taking.bytes }); reading = Some reading; ends = none_ends; runs = false };
        lines = Reply point.call reply ∷ Acted point ∷ Took taking.call taking.node taking.client taking.bytes ∷ [];
      }

      abbrev one : Served
      one = record { taking = taking; point = point; reply = reply }

      other : (at : ℕ) (t : Taking) → IsPending (trace_of parts) at t → eqb point.call t.call ≡ false
      other at t pending = ne_eqb point.call t.call (λ is. omega (arith, of, is, older rules.kept (trace_of parts) history so_far.fits taking number at t pending))

      -- what waited waits on, and the call doesn't wait
      waiting_still : (at : ℕ) → waiting (once_part ∷ parts) at ≡ waits at
      waiting_still at = without (taking.node == at) ∙ fewer (trace_since parts at) at point.call ∙ ap (filter (λ t. not (eqb point.call t.call))) (so_far.waiting_are at)
          ∙ filter_all _ (waits at) (all_mapped _ _ (waits at) (λ t pending. ap not (other at t pending)) (so_far.pending at))
        where
          others : List Taking
          others = filter (λ t. (t.node == at) && not (eqb point.call t.call || has_reply (trace_since parts at) t.call)) (takings (trace_since parts at))

          without : (here : Bool) → (if here && not (eqb point.call taking.call || has_reply (trace_since parts at) taking.call) then taking ∷ others else others) ≡ others
          without true = rw (of, same taking.call) refl
          without false = refl

      -- its answer is the newest that its node sent, also since that ended
      abbrev pub answer : Answer
      answer = record { node = taking.node; client = taking.client; bytes = taking.bytes; reply = reply }

      found : (trace : List TraceLine) → taking_of (Took taking.call taking.node taking.client taking.bytes ∷ trace) point.call ≡ Some taking
      found trace = rw (of, same taking.call) refl

      known : (at : ℕ) → IsKnown (Took taking.call taking.node taking.client taking.bytes ∷ trace_since parts at) at one
      known at = record {
        here = λ is. found (trace_since parts at);
        only = λ t is. (let both : Some t ≡ Some taking = sym is ∙ found (trace_since parts at) in cc);
      }

      pub once_more : (at : ℕ) → answers_at (trace_since (once_part ∷ parts) at) at ≡ (if taking.node == at then answer ∷ answers_at (trace_since parts at) at else answers_at (trace_since parts at) at)
      once_more at = served_one (Took taking.call taking.node taking.client taking.bytes ∷ trace_since parts at) at (one ∷ []) [] one (known at)

      pub answered_there : AwaitsNewest Step rules first (once_part ∷ parts) (entry_for taking point reply ∷ history) next waits
      answered_there = awaits_these Step rules patient first (once_part ∷ parts) (entry_for taking point reply ∷ history) next waits waiting_still
          (part_served Step rules patient first parts history last own once_part.what.arrives (Some reading) false (Some taking) (one ∷ []) None
          (record {
            takes = sym is_taken;
            number = number;
            of = (of, tt);
            waits = (subst (IsIn taking) (sym (waiting_now taking.node)) (rw (same taking.node) (inl refl)), tt);
            others = (tt, tt);
            moments = (inl (ap (λ (m : ℕ). Some m) (sym moment)), tt);
            immediate = λ at_once alive. (rw (of, same taking.call) refl, rw (of, same taking.call) refl);
            repeats = sym no_repeat;
            sent = tt;
          }) next (last, refl, step))

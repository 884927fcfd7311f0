-- An account goes on where nodes end, and where it is found later that a call acted which has no reply.
use Rattle.std.proofs.Common.{◌≡◌, ℕ, Bool, false, List, [], ◌∷◌, Option, None, refl, sym}
use Rattle.std.specs.Prelude.{◌≢◌}
use Rattle.std.specs.List.{AllByRecursion}
use Rattle.std.proofs.lemmas.Bool.{ne_eqb, or_from, or_right}
use Rattle.bx_base.specs.declared.names.Point.{Point}
use Rattle.bx_script.specs.declared.trace_line.TraceLine.{TraceLine}
use Rattle.bx_script.specs.declared.trace_line.TraceLine.TheVariants.{Acted}
use Rattle.bx_history.specs.Trace.{Entry, Taking, takings}
use Rattle.bx_history.specs.Parts.{Part, trace_of}
use Rattle.bx_history.specs.Placed.{Rules, HasReadingSince, IsAnsweredAtOnce}
use Rattle.bx_history.specs.Along.{all_end}
use Rattle.bx_history.specs.Account.{AwaitsNewest, IsPatient, IsPending, LacksPoint, entry_for}
use Rattle.bx_history.proofs.Lists.{all_mapped}
use Rattle.bx_history.proofs.OnePart.{no_prompt, some_ended}
use Rattle.bx_history.proofs.Waiting.{awaits_own, awaits_these}

module _ {Tree : Type 0} (Step : Tree → Entry → Tree → Type 0) (rules : Rules) (patient : IsPatient rules) where
  -- ---- all nodes end: no call waits any more

  pub ended_part : (first : Tree) (parts : List Part) (history : List Entry) (last : Tree) (waits : ℕ → List Taking) (reading : Option ℕ)
      → AwaitsNewest Step rules first parts history last waits
      → AwaitsNewest Step rules first (record { what = record { arrives = None; reading = reading; ends = all_end; runs = false }; lines = [] } ∷ parts) history last (λ _. [])
  ended_part first parts history last waits reading so_far = awaits_these Step rules patient first _ history last (λ _. []) (λ node. refl)
      (some_ended Step rules patient first parts history last (awaits_own Step rules patient first parts history last waits so_far) reading all_end)

  -- ---- a call acted that waits no more

  module _ (first : Tree) (older : List Part) (history : List Entry) (last next : Tree) (waits : ℕ → List Taking) (reading : Option ℕ) (ends : ℕ → Bool) (runs : Bool) (lines : List TraceLine)
      (taking : Taking) (point : Point) (reply : List ℕ) where
    -- the part, with what came in it before and now
    abbrev part_before : Part
    part_before = record { what = record { arrives = None; reading = reading; ends = ends; runs = runs }; lines = lines }

    abbrev part_after : Part
    part_after = record { what = record { arrives = None; reading = reading; ends = ends; runs = runs }; lines = Acted point ∷ lines }

    module _ (so_far : AwaitsNewest Step rules first (part_before ∷ older) history last waits) (lacks : LacksPoint (trace_of (part_before ∷ older)) taking) (of : point.call ≡ taking.call)
        (gone : (node : ℕ) → AllByRecursion (λ call. call.call ≢ point.call) (waits node))
        (moment : HasReadingSince point.call point.moment (part_before ∷ older)) (step : Step last (entry_for taking point reply) next) where
      waits_on : (node : ℕ) (calls : List Taking) → AllByRecursion (λ call. call.call ≢ point.call) calls
          → AllByRecursion (IsPending (trace_of (part_before ∷ older)) node) calls → AllByRecursion (IsPending (trace_of (part_after ∷ older)) node) calls
      waits_on node [] apart pending = tt
      waits_on node (call ∷ calls) apart pending = (
        record {
          taken = pending.0.taken;
          at = pending.0.at;
          no_point = or_from _ _ (ne_eqb point.call call.call (λ is. apart.0 (sym is))) pending.0.no_point;
          no_reply = pending.0.no_reply;
        },
        waits_on node calls apart.1 pending.1,
      )

      still_answered : (t : Taking) → IsAnsweredAtOnce rules older part_before t → IsAnsweredAtOnce rules older part_after t
      still_answered t was at_once alive = let answered = was at_once alive in (or_right _ _ answered.0, answered.1)

      pub found_point : AwaitsNewest Step rules first (part_after ∷ older) (entry_for taking point reply ∷ history) next waits
      found_point = record {
        fits = (
          record { taking = taking; taken = rw of (lacks.taken); client = refl; bytes = refl; first = rw of (lacks.no_point); call = refl; moment = refl; spare = refl; made = refl },
          so_far.fits,
        );
        leads = (last, so_far.leads, step);
        placed = (
          record {
            takes = so_far.placed.0.takes;
            repeats = so_far.placed.0.repeats;
            immediate = all_mapped _ _ (takings lines) still_answered so_far.placed.0.immediate;
            prompt = λ is. absurd (no_prompt Step rules patient _ is);
            moments = (moment, so_far.placed.0.moments);
          },
          so_far.placed.1,
        );
        waiting_are = so_far.waiting_are;
        pending = λ node. waits_on node (waits node) (gone node) (so_far.pending node);
        in_order = so_far.in_order;
        split = so_far.split;
      }

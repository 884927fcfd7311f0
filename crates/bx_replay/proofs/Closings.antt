-- Points that are told behind the trace of a run's parts.
use Rattle.std.proofs.Common.{◌≡◌, ℕ, false, List, [], ◌∷◌, ◌++◌, refl, sym, ap, ◌∙◌, append_assoc}
use Rattle.std.specs.Prelude.{◌≢◌, map, reverse}
use Rattle.std.specs.List.{AllByRecursion}
use Rattle.std.proofs.lemmas.Bool.{ne_eqb, or_from}
use Rattle.std.proofs.lemmas.List.{append-nil, map-append, reverse-append, reverse-reverse}
use Rattle.bx_base.specs.declared.names.Point.{Point}
use Rattle.bx_script.specs.declared.trace_line.TraceLine.{TraceLine}
use Rattle.bx_script.specs.declared.trace_line.TraceLine.TheVariants.{Acted}
use Rattle.bx_history.specs.Trace.{Entry, FitsNewest, Taking, has_point, taking_of}
use Rattle.bx_history.specs.Legal.{LeadsNewest}
use Rattle.bx_history.specs.Parts.{Part, trace_of}
use Rattle.bx_history.specs.Placed.{Rules, HasReadingSince, IsClosing}
use Rattle.bx_history.specs.Account.{AwaitsNewest, LacksPoint, entry_for}
use Rattle.bx_history.proofs.Lists.{all_front}
use Rattle.bx_replay.proofs.Allowed.{all_push}

-- These points were told behind the trace, the oldest first: with them it fits a history, which leads to this tree. They tell of no call but their own.
pub record IsClosed {Tree : Type 0} (EntryStep : Tree → Entry → Tree → Type 0) (rules : Rules) (first : Tree) (parts : List Part) (closing : List Point) (next : Tree) : Type 0 where
  pub history : List Entry
  pub whole : List TraceLine
  pub whole_is : reverse (reverse (trace_of parts) ++ map Acted closing) ≡ whole
  pub fits : FitsNewest rules.kept whole history
  pub leads : LeadsNewest EntryStep first history next
  pub taken : (call : ℕ) → taking_of whole call ≡ taking_of (trace_of parts) call
  pub apart : (call : ℕ) → has_point (trace_of parts) call ≡ false → AllByRecursion (λ point. point.call ≢ call) closing → has_point whole call ≡ false
  pub closed : AllByRecursion (IsClosing parts) (map Acted closing)

module _ {Tree : Type 0} (EntryStep : Tree → Entry → Tree → Type 0) (rules : Rules) (first : Tree) (parts : List Part) where
  -- none is told
  pub closes_none : (history : List Entry) (last : Tree) (waits : ℕ → List Taking) → AwaitsNewest EntryStep rules first parts history last waits → IsClosed EntryStep rules first parts [] last
  closes_none history last waits so_far = record {
    history = history;
    whole = trace_of parts;
    whole_is = ap (λ (t : List TraceLine). reverse t) (append-nil (reverse (trace_of parts))) ∙ reverse-reverse (trace_of parts);
    fits = so_far.fits;
    leads = so_far.leads;
    taken = λ call. refl;
    apart = λ call none all. none;
    closed = tt;
  }

  -- one more is, of a call that lacks a point
  pub closes_more : (closing : List Point) (last next : Tree) (taking : Taking) (point : Point) (reply : List ℕ) → IsClosed EntryStep rules first parts closing last → LacksPoint (trace_of parts) taking → point.call ≡ taking.call
      → AllByRecursion (λ other. other.call ≢ point.call) closing → HasReadingSince point.call point.moment parts → EntryStep last (entry_for taking point reply) next
      → IsClosed EntryStep rules first parts (closing ++ point ∷ []) next
  closes_more closing last next taking point reply so_far lacks of others moment step =
      let more : map Acted (closing ++ point ∷ []) ≡ map Acted closing ++ Acted point ∷ [] = map-append Acted closing (point ∷ []) in
      record {
        history = entry_for taking point reply ∷ so_far.history;
        whole = Acted point ∷ so_far.whole;
        whole_is = ap (λ (l : List TraceLine). reverse (reverse (trace_of parts) ++ l)) more ∙ ap (λ (l : List TraceLine). reverse l) (sym (append_assoc (reverse (trace_of parts)) (map Acted closing) (Acted point ∷ [])))
            ∙ reverse-append (reverse (trace_of parts) ++ map Acted closing) (Acted point ∷ []) ∙ ap (λ (l : List TraceLine). Acted point ∷ l) so_far.whole_is;
        fits = (
          record {
            taking = taking;
            taken = so_far.taken point.call ∙ rw of (lacks.taken);
            client = refl;
            bytes = refl;
            first = so_far.apart point.call (rw of (lacks.no_point)) others;
            call = refl;
            moment = refl;
            spare = refl;
            made = refl;
          },
          so_far.fits,
        );
        leads = (last, so_far.leads, step);
        taken = so_far.taken;
        apart = λ call none all. (let parts = all_front (λ (other : Point). other.call ≢ call) closing point all in or_from _ _ (ne_eqb point.call call parts.1) (so_far.apart call none parts.0));
        closed = rw more (all_push (IsClosing parts) (map Acted closing) (Acted point) so_far.closed moment);
      }

-- One event behind others.
use Rattle.std.proofs.Common.{◌≡◌, ℕ, true, List, [], ◌∷◌, ◌++◌, reverse, inl, inr, refl, ap, sym, append_assoc, ◌∙◌}
use Rattle.std.proofs.lemmas.Bool.{or_cases}
use Rattle.std.proofs.lemmas.List.{append-nil}
use Rattle.std.specs.Prelude.{is_some, ◌⊎◌}
use Rattle.std.specs.FinSet as set
use Rattle.bx_base.specs.Faults.{Rose}
use Rattle.bx_cluster.specs.Steps.{lines_in}
use Rattle.bx_disk.specs.Disks.{Disks}
use Rattle.bx_disk.specs.declared.noise.Noise.{Noise}
use Rattle.bx_disk.specs.declared.rack.Rack as racks
use Rattle.bx_driver.specs.Racks.{KeepsRack}
use Rattle.bx_driver.specs.Steps.{IsOne, IsStep, EventStep, parts_with}
use Rattle.bx_history.specs.Parts.{Part}
use Rattle.bx_model.specs.declared.tree.Tree.{Tree}
use Rattle.bx_script.specs.TraceText.{trace_text}
use Rattle.bx_world_events.specs.Refusals.{Seen}
use Rattle.bx_world_events.specs.declared.event.Event.{Event}
use Rattle.bx_schedule.specs.Doing.{AreNone}
use Rattle.bx_schedule.specs.Places.{Acts, Goes, Place, has_stopped, lines_by}
use Rattle.bx_schedule.proofs.Acting.{keeps_both, keeps_none, rose_before, rose_later}
use Rattle.bx_schedule.proofs.Telling.{range_more, text_more}

module _ {C R : Type 0} (seen_of : C → Seen) (led_of : C → Disks → Tree → List Part → Type 0) (ra : racks.Ghosts R) where
  -- nothing was done
  pub goes_none : (Is : Seen → List EventStep → Seen → Type 0) (noise : Noise) (old new : Place C) (before after : R)
      → Is (seen_of old.cluster) [] (seen_of new.cluster) → ((tree : Tree) (parts : List Part) → led_of old.cluster (ra.state before) tree parts → led_of new.cluster (ra.state after) tree parts)
      → new.lacking ≡ old.lacking → new.text ≡ old.text → ra.state after ≡ ra.state before → KeepsRack ra before after
      → Goes seen_of led_of ra Is noise old before new after
  goes_none Is noise old new before after is leads lacking text state keeps = record {
    steps = [];
    is = is;
    leads = λ tree parts tells led. leads tree parts led;
    lacks = λ tree parts tells led were call. ap (λ s. set.contains s call) lacking ∙ were call;
    text = text ∙ sym (append-nil old.text);
    in_range = tt;
    disks = λ tells. state;
    blamed = λ is. cc;
    keeps = keeps;
  }

  -- one event behind others
  pub goes_more : (Is More : Seen → List EventStep → Seen → Type 0) (noise : Noise) (event : Event) (old mid new : Place C) (before between after : R)
      → ((steps : List EventStep) → Is (seen_of old.cluster) steps (seen_of mid.cluster) → (step : EventStep) → step.event ≡ event → IsStep (seen_of mid.cluster) step (seen_of new.cluster) → More (seen_of old.cluster) (step ∷ steps) (seen_of new.cluster))
      → Goes seen_of led_of ra Is noise old before mid between → Acts seen_of led_of ra noise event mid between new after → Goes seen_of led_of ra More noise old before new after
  goes_more Is More noise event old mid new before between after more one two = record {
    steps = step ∷ one.steps;
    is = more one.steps one.is step refl two.goes;
    leads = λ tree parts tells led. two.leads tree (parts_with one.steps parts) (one.keeps.tells tells) (one.leads tree parts tells led);
    lacks = λ tree parts tells led were. two.lacks tree (parts_with one.steps parts) (one.keeps.tells tells) (one.leads tree parts tells led) (one.lacks tree parts tells led were);
    text = two.text ∙ ap (λ (l : List ℕ). l ++ trace_text (reverse (lines_in event two.outcome))) one.text ∙ append_assoc old.text (trace_text (lines_by one.steps)) (trace_text (reverse (lines_in event two.outcome)))
        ∙ ap (λ (l : List ℕ). old.text ++ l) (sym (text_more step one.steps));
    in_range = range_more step one.steps one.in_range two.in_range;
    disks = λ tells.
        let left = two.disks (one.keeps.tells tells) in
        (seen_of mid.cluster, ra.state between, left.0, one.disks tells, two.goes, left.1, left.2);
    blamed = λ is. by (or_cases (is_some two.outcome.stopped) (has_stopped one.steps) is);
    keeps = keeps_both ra before between after one.keeps two.keeps;
  }
    where
      step : EventStep
      step = record { event = event; outcome = two.outcome }

      by : (is_some two.outcome.stopped ≡ true) ⊎ (has_stopped one.steps ≡ true) → Rose (ra.faults before) (ra.faults after)
      by (inl now) = rose_later _ _ _ one.keeps.later.all (two.blamed now)
      by (inr then) = rose_before _ _ _ one.keeps.later.all two.keeps.later.all (one.blamed then)

  -- it is more than that
  pub goes_as : (These Those : Seen → List EventStep → Seen → Type 0) (noise : Noise) (old new : Place C) (before after : R)
      → ((steps : List EventStep) → These (seen_of old.cluster) steps (seen_of new.cluster) → Those (seen_of old.cluster) steps (seen_of new.cluster))
      → Goes seen_of led_of ra These noise old before new after → Goes seen_of led_of ra Those noise old before new after
  goes_as These Those noise old new before after more one =
      record { steps = one.steps; is = more one.steps one.is; leads = one.leads; lacks = one.lacks; text = one.text; in_range = one.in_range; disks = one.disks; blamed = one.blamed; keeps = one.keeps }

  -- an event alone, behind its reading
  pub goes_alone : (noise : Noise) (event : Event) (old : Place C) (clock : ℕ) (new : Place C) (before after : R)
      → Acts seen_of led_of ra noise event (record { cluster = old.cluster; held = old.held; clock = clock; lacking = old.lacking; text = old.text }) before new after → Goes seen_of led_of ra (IsOne event) noise old before new after
  goes_alone noise event old clock new before after acts =
      let mid : Place C = record { cluster = old.cluster; held = old.held; clock = clock; lacking = old.lacking; text = old.text } in
      let none = goes_none AreNone noise old mid before before (refl, refl) (λ tree parts led. led) refl refl refl (keeps_none ra before) in
      goes_more AreNone (IsOne event) noise event old mid new before before after (λ steps none step is goes. record { step = step; alone = ap (λ (l : List EventStep). step ∷ l) none.0; is = is; goes = goes }) none acts

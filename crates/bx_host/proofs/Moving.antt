-- Steps behind others.
use Rattle.std.proofs.Common.{◌≡◌, ℕ, List, [], ◌∷◌, ◌++◌, refl, ap, sym, ◌∙◌, subst, append_assoc}
use Rattle.std.proofs.lemmas.List.{append-nil}
use Rattle.bx_base.specs.declared.names.Actor.{Actor}
use Rattle.bx_cluster.specs.Steps.{part_at}
use Rattle.bx_history.specs.Parts.{Arrival, Part}
use Rattle.bx_outside.specs.declared.datagram.Datagram.{Datagram}
use Rattle.bx_world_events.specs.Refusals.{Seen}
use Rattle.bx_world_events.specs.declared.event.Event.{Event}
use Rattle.bx_host.specs.Standing.{Does, HostView}
use Rattle.bx_host.specs.Steps.{Along, Place, EventStep, brought_by, brought_in, datagrams, parts_with, sent_by, stopped_by, stopped_in}

pub along_both : (Is : Seen → Event → Type 0) (a b c : Place) (earlier later : List EventStep) → Along Is a earlier b → Along Is b later c → Along Is a (later ++ earlier) c
along_both Is a b c earlier [] first second = subst (Along Is a earlier) (sym second) first
along_both Is a b c earlier (step ∷ later) first (middle, along, does, goes) = (middle, along_both Is a b middle earlier later first along, does, goes)

pub sent_both : (earlier later : List EventStep) → sent_by (later ++ earlier) ≡ sent_by earlier ++ sent_by later
sent_both earlier [] = sym (append-nil (sent_by earlier))
sent_both earlier (step ∷ later) =
    ap (λ (l : List Datagram). l ++ datagrams step.outcome) (sent_both earlier later) ∙ append_assoc (sent_by earlier) (sent_by later) (datagrams step.outcome)

pub stopped_both : (earlier later : List EventStep) → stopped_by (later ++ earlier) ≡ stopped_by earlier ++ stopped_by later
stopped_both earlier [] = sym (append-nil (stopped_by earlier))
stopped_both earlier (step ∷ later) =
    ap (λ (l : List Actor). l ++ stopped_in step.outcome.stopped) (stopped_both earlier later) ∙ append_assoc (stopped_by earlier) (stopped_by later) (stopped_in step.outcome.stopped)

pub brought_both : (earlier later : List EventStep) → brought_by (later ++ earlier) ≡ brought_by earlier ++ brought_by later
brought_both earlier [] = sym (append-nil (brought_by earlier))
brought_both earlier (step ∷ later) =
    ap (λ (l : List Arrival). l ++ brought_in step.event) (brought_both earlier later) ∙ append_assoc (brought_by earlier) (brought_by later) (brought_in step.event)

pub parts_both : (earlier later : List EventStep) (parts : List Part) → parts_with (later ++ earlier) parts ≡ parts_with later (parts_with earlier parts)
parts_both earlier [] parts = refl
parts_both earlier (step ∷ later) parts = ap (λ (l : List Part). part_at step.event step.outcome ∷ l) (parts_both earlier later parts)

-- what is done behind something else
pub does_both : (First Second Both : Place → List EventStep → Place → Type 0) (brings more : List Arrival) (reading : ℕ) (a b c : HostView)
    → ((earlier later : List EventStep) → First a.place earlier b.place → Second b.place later c.place → Both a.place (later ++ earlier) c.place)
    → Does First brings reading a b → Does Second more reading b c → Does Both (brings ++ more) reading a c
does_both First Second Both brings more reading a b c both one two = record {
  steps = two.steps ++ one.steps;
  is = both one.steps two.steps one.is two.is;
  brought = brought_both one.steps two.steps ∙ ap (λ (l : List Arrival). l ++ brought_by two.steps) one.brought ∙ ap (λ (l : List Arrival). brings ++ l) two.brought;
  along = along_both _ a.place b.place c.place one.steps two.steps one.along two.along;
  leads = λ tree parts led. subst (c.led tree) (sym (parts_both one.steps two.steps parts)) (two.leads tree (parts_with one.steps parts) (one.leads tree parts led));
  owes = two.owes ∙ ap (λ (l : List Datagram). l ++ sent_by two.steps) one.owes ∙ append_assoc a.owed (sent_by one.steps) (sent_by two.steps) ∙ ap (λ (l : List Datagram). a.owed ++ l) (sym (sent_both one.steps two.steps));
  stops = two.stops ∙ ap (λ (l : List Actor). l ++ stopped_by two.steps) one.stops ∙ append_assoc a.stopped (stopped_by one.steps) (stopped_by two.steps) ∙ ap (λ (l : List Actor). a.stopped ++ l) (sym (stopped_both one.steps two.steps));
}

-- nothing is done
pub does_none : (Is : Place → List EventStep → Place → Type 0) (reading : ℕ) (a : HostView) → Is a.place [] a.place → Does Is [] reading a a
does_none Is reading a is = record {
  steps = [];
  is = is;
  brought = refl;
  along = refl;
  leads = λ tree parts led. led;
  owes = sym (append-nil a.owed);
  stops = sym (append-nil a.stopped);
}

-- it is more than that
pub does_as : (These Those : Place → List EventStep → Place → Type 0) (brings : List Arrival) (reading : ℕ) (a b : HostView)
    → ((steps : List EventStep) → These a.place steps b.place → Those a.place steps b.place) → Does These brings reading a b → Does Those brings reading a b
does_as These Those brings reading a b more one = record { steps = one.steps; is = more one.steps one.is; brought = one.brought; along = one.along; leads = one.leads; owes = one.owes; stops = one.stops }

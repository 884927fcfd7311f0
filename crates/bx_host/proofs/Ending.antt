-- How parts of a turn end, one behind the other.
use Rattle.std.proofs.Common.{◌≡◌, ℕ, ◌+◌, ◌≤◌, List, [], ◌∷◌, ◌++◌, inl, inr, refl, arith, ◌∙◌, Result, Ok, Err, None}
use Rattle.bx_base.specs.Faults.{Rose}
use Rattle.bx_cluster.specs.Steps.{Shown, part_at}
use Rattle.bx_cluster.specs.declared.outcome.Outcome.{Outcome}
use Rattle.bx_disk.specs.declared.rack.Rack as racks
use Rattle.bx_history.specs.Parts.{Arrival, Part}
use Rattle.bx_model.specs.declared.tree.Tree.{Tree}
use Rattle.bx_world_events.specs.Refusals.{refusal}
use Rattle.bx_world_events.specs.declared.event.Event.{Event}
use Rattle.bx_host.specs.Standing.{AreAny, Does, Ends, KeepsRack, HostView}
use Rattle.bx_host.specs.Steps.{IsAt, IsStep, Place, EventStep, brought_in, datagrams, stopped_in}
use Rattle.bx_host.specs.Turns.{IsOne}
use Rattle.bx_host.specs.declared.error.HostError.{HostError}
use Rattle.bx_host.specs.declared.error.HostError.TheVariants.{Disk, Link, Write, NoLabel, OutOfMemory, NoMajority, Spent}
use Rattle.bx_host.proofs.Moving.{does_as, does_both}

-- one event
pub one_done : (reading : ℕ) (event : Event) (outcome : Outcome) (a b : HostView)
    → refusal a.place.seen event ≡ None → Shown event outcome.stopped a.place.seen b.place.seen → a.place.left ≡ b.place.left + 1 → IsAt reading a.place.seen event
    → ((tree : Tree) (parts : List Part) → a.led tree parts → b.led tree (part_at event outcome ∷ parts))
    → b.owed ≡ a.owed ++ datagrams outcome → b.stopped ≡ a.stopped ++ stopped_in outcome.stopped
    → Does (IsOne event) (brought_in event) reading a b
one_done reading event outcome a b allowed shown left at leads owes stops =
    let goes : IsStep a.place (record { event = event; outcome = outcome }) b.place = record { allowed = allowed; shown = shown; left = left } in
    record {
      steps = record { event = event; outcome = outcome } ∷ [];
      is = record { step = record { event = event; outcome = outcome }; alone = refl; is = refl; goes = goes };
      brought = refl;
      along = (a.place, refl, at, goes);
      leads = leads;
      owes = owes;
      stops = stops;
    }

-- an end behind what was done
pub ends_both : {A : Type 0} (First Second Both : Place → List EventStep → Place → Type 0) (brings more : List Arrival) (reading : ℕ) (a b c : HostView) (result : Result A HostError)
    → ((earlier later : List EventStep) → First a.place earlier b.place → Second b.place later c.place → Both a.place (later ++ earlier) c.place)
    → Does First brings reading a b → Ends result Second more reading b c → Ends result Both (brings ++ more) reading a c
ends_both First Second Both brings more reading a b c (Ok _) both one two = does_both First Second Both brings more reading a b c both one two
ends_both First Second Both brings more reading a b c (Err Disk) both one (two, lost) = (does_both First AreAny AreAny brings more reading a b c (λ earlier later is then. tt) one two, lost)
ends_both First Second Both brings more reading a b c (Err Link) both one two = does_both First AreAny AreAny brings more reading a b c (λ earlier later is then. tt) one two
ends_both First Second Both brings more reading a b c (Err Write) both one two = does_both First AreAny AreAny brings more reading a b c (λ earlier later is then. tt) one two
ends_both First Second Both brings more reading a b c (Err OutOfMemory) both one two = tt
ends_both First Second Both brings more reading a b c (Err (NoLabel disk)) both one two = two
ends_both First Second Both brings more reading a b c (Err NoMajority) both one two = two
ends_both First Second Both brings more reading a b c (Err (Spent boot)) both one two = two

-- an error says nothing of what would have been done
pub ends_err : (A B : Type 0) (These Those : Place → List EventStep → Place → Type 0) (brings : List Arrival) (reading : ℕ) (a b : HostView) (error : HostError) → Ends {A = A} (Err error) These brings reading a b → Ends {A = B} (Err error) Those brings reading a b
ends_err A B These Those brings reading a b Disk ends = ends
ends_err A B These Those brings reading a b Link ends = ends
ends_err A B These Those brings reading a b Write ends = ends
ends_err A B These Those brings reading a b OutOfMemory ends = ends
ends_err A B These Those brings reading a b (NoLabel disk) ends = ends
ends_err A B These Those brings reading a b NoMajority ends = ends
ends_err A B These Those brings reading a b (Spent boot) ends = ends

pub ends_as : {A : Type 0} (These Those : Place → List EventStep → Place → Type 0) (brings : List Arrival) (reading : ℕ) (a b : HostView) (result : Result A HostError)
    → ((steps : List EventStep) → These a.place steps b.place → Those a.place steps b.place) → Ends result These brings reading a b → Ends result Those brings reading a b
ends_as These Those brings reading a b (Ok _) more ends = does_as These Those brings reading a b more ends
ends_as {A = A} These Those brings reading a b (Err error) more ends = ends_err A A These Those brings reading a b error ends

-- ---- racks and counts

pub keeps_none : {R : Type 0} (ra : racks.Ghosts R) (a : R) → KeepsRack ra a a
keeps_none ra a = record { sizes = refl; later = record { all = omega arith; each = λ d. omega arith }; tells = λ tells. tells }

pub keeps_both : {R : Type 0} (ra : racks.Ghosts R) (a b c : R) → KeepsRack ra a b → KeepsRack ra b c → KeepsRack ra a c
keeps_both ra a b c one two = record {
  sizes = two.sizes ∙ one.sizes;
  later = record { all = omega (arith, one.later.all, two.later.all); each = λ d. omega (arith, one.later.each d, two.later.each d) };
  tells = λ tells. two.tells (one.tells tells);
}

pub rose_later : (a b c : ℕ) → a ≤ b → Rose b c → Rose a c
rose_later a b c later (inl rose) = inl (omega arith)
rose_later a b c later (inr last) = inr last

-- An event of a server, and parts of its turn one behind the other.
use Rattle.std.proofs.Common.{◌≡◌, ℕ, ◌+◌, ◌==◌, ◌&&◌, List, [], ◌∷◌, ◌++◌, ◌⊎◌, length, inl, inr, refl, arith, ap, sym, ◌∙◌, subst, append_assoc, Option, Some, None, Result, Ok, Err, true, false}
use Rattle.std.proofs.lemmas.Bool.Decides.{nat_tests}
use Rattle.std.proofs.lemmas.List.{append-nil}
use Rattle.std.specs.Prelude.{IfErr, IsErrOf, IsSome, OnOk, is_none}
use Rattle.bx_base.specs.declared.names.Actor.{Actor}
use Rattle.bx_cluster.specs.Steps.{Shown, part_at}
use Rattle.bx_cluster.specs.declared.outcome.Outcome.{Outcome}
use Rattle.bx_cluster.specs.declared.outcome.ReplyOut.{ReplyOut}
use Rattle.bx_disk.specs.Disks.{Disks}
use Rattle.bx_disk.specs.declared.rack.Rack as racks
use Rattle.bx_history.specs.Parts.{Arrival, Part}
use Rattle.bx_model.specs.declared.tree.Tree.{Tree}
use Rattle.bx_outside.specs.declared.datagram.Datagram.{Datagram}
use Rattle.bx_world_events.specs.Refusals.{Seen, refusal}
use Rattle.bx_world_events.specs.declared.event.Event.{Event}
use Rattle.bx_host.specs.Lost.{is_lost}
use Rattle.bx_host.specs.Standing.{AreAny, Does, Ends, Goes, IsNoted, KeepsRack, standing}
use Rattle.bx_host.specs.Steps.{IsAt, Place, EventStep, again_of, brought_in, datagrams, is_silent, owed, replies_of, stopped_in}
use Rattle.bx_host.specs.Turns.{IsOne}
use Rattle.bx_host.specs.declared.error.HostError.{HostError}
use Rattle.bx_host.specs.declared.error.HostError.TheVariants.{Disk, OutOfMemory}
use Rattle.bx_host.specs.declared.host.Host.{Host}
use Rattle.bx_host.proofs.Ending.{ends_both, ends_err, keeps_both, keeps_none, one_done}
use Rattle.bx_host.proofs.Moving.{does_as, does_none}

-- ---- what is owed

pub owed_push : (outcomes : List Outcome) (outcome : Outcome) → owed (outcomes ++ outcome ∷ []) ≡ owed outcomes ++ datagrams outcome
owed_push [] outcome = append-nil (datagrams outcome)
owed_push (first ∷ later) outcome = ap (λ (l : List Datagram). datagrams first ++ l) (owed_push later outcome) ∙ sym (append_assoc (datagrams first) (owed later) (datagrams outcome))

none_silent : (replies : List ReplyOut) (again : Option ReplyOut) → (length replies == 0) && is_none again ≡ true → replies_of replies ++ again_of again ≡ []
none_silent [] None is = refl
none_silent [] (Some reply) is = cc
none_silent (reply ∷ replies) again is =
    let apart : (length (reply ∷ replies) == 0) ≡ false = grind (arith, nat_tests) in
    let wrong = sym (ap (λ b. b && is_none again) apart) ∙ is in cc

pub silent : (outcomes : List Outcome) (outcome : Outcome) → is_silent outcome ≡ true → owed outcomes ≡ owed outcomes ++ datagrams outcome
silent outcomes outcome is = sym (append-nil (owed outcomes)) ∙ ap (λ (l : List Datagram). owed outcomes ++ l) (sym (none_silent outcome.replies outcome.again is))

pub kept_ok : {A E : Type 0} (result : Result A E) (old new : List Outcome) (outcome : Outcome) → OnOk result (new ≡ old ++ outcome ∷ []) → OnOk result (owed new ≡ owed old ++ datagrams outcome)
kept_ok (Ok x) old new outcome is = ap owed is ∙ owed_push old outcome
kept_ok (Err e) old new outcome is = tt

module _ {C R : Type 0} (seen_of : C → Seen) (room_of : C → List ℕ → Type 0) (led_of : C → Disks → Tree → List Part → Type 0) (ra : racks.Ghosts R) where
  -- an event was done, and what it came to was noted
  pub acted : (old mid new : Host C) (before after : R) (event : Event) (outcome : Outcome) (result : Result (Unit {0}) HostError)
      → new ≡ record mid { answers = new.answers; stopped = new.stopped }
      → mid.reading ≡ old.reading → mid.first ≡ old.first → old.left ≡ mid.left + 1 → mid.answers ≡ old.answers → mid.stopped ≡ old.stopped → mid.ready ≡ old.ready → mid.sent ≡ old.sent
      → refusal (seen_of old.cluster) event ≡ None → Shown event outcome.stopped (seen_of old.cluster) (seen_of mid.cluster) → IsAt old.reading (seen_of old.cluster) event
      → ((tree : Tree) (parts : List Part) → ra.tells before → led_of old.cluster (ra.state before) tree parts → led_of mid.cluster (ra.state after) tree (part_at event outcome ∷ parts))
      → KeepsRack ra before after
      → OnOk result (IsNoted outcome mid new × (is_lost new.stopped ≡ false))
      → (IsErrOf result Disk → IsNoted outcome mid new × (is_lost new.stopped ≡ true) × IsSome outcome.stopped)
      → IfErr result (λ error. (error ≡ Disk) ⊎ (error ≡ OutOfMemory))
      → Goes seen_of room_of led_of ra result (IsOne event) (brought_in event) old before new after
  acted old mid new before after event outcome result same reading first left answers stopped ready sent allowed shown at leads keeps ok lost why = record {
    ends = by_result result ok lost why;
    only = why;
    keeps = keeps;
    reading = ap (λ (h : Host C). h.reading) same ∙ reading;
    first = ap (λ (h : Host C). h.first) same ∙ first;
    ready = ap (λ (h : Host C). h.ready) same ∙ ready;
    sent = ap (λ (h : Host C). h.sent) same ∙ sent;
  }
    where
      noted : IsNoted outcome mid new → Does (IsOne event) (brought_in event) old.reading (standing seen_of room_of led_of ra old before) (standing seen_of room_of led_of ra new after)
      noted is =
          let cluster : new.cluster ≡ mid.cluster = ap (λ (h : Host C). h.cluster) same in
          let fewer : new.left ≡ mid.left = ap (λ (h : Host C). h.left) same in
          one_done old.reading event outcome (standing seen_of room_of led_of ra old before) (standing seen_of room_of led_of ra new after) allowed (subst (λ (w : C). Shown event outcome.stopped (seen_of old.cluster) (seen_of w)) (sym cluster) shown) (left ∙ ap (λ n. n + 1) (sym fewer)) at
          (λ tree parts led. (keeps.tells led.0, subst (λ (w : C). led_of w (ra.state after) tree (part_at event outcome ∷ parts)) (sym cluster) (leads tree parts led.0 led.1)))
          (is.owes ∙ ap (λ (l : List Outcome). owed l ++ datagrams outcome) answers) (is.stops ∙ ap (λ (l : List Actor). l ++ stopped_in outcome.stopped) stopped)

      by_result : (r : Result (Unit {0}) HostError) → OnOk r (IsNoted outcome mid new × (is_lost new.stopped ≡ false)) → (IsErrOf r Disk → IsNoted outcome mid new × (is_lost new.stopped ≡ true) × IsSome outcome.stopped)
          → IfErr r (λ error. (error ≡ Disk) ⊎ (error ≡ OutOfMemory)) → Ends r (IsOne event) (brought_in event) old.reading (standing seen_of room_of led_of ra old before) (standing seen_of room_of led_of ra new after)
      by_result (Ok _) ok lost why = noted ok.0
      by_result (Err error) ok lost (inl is) =
          let both = lost (ap Err is) in
          subst (λ e. Ends {A = Unit {0}} (Err e) (IsOne event) (brought_in event) old.reading (standing seen_of room_of led_of ra old before) (standing seen_of room_of led_of ra new after)) (sym is)
          (does_as (IsOne event) AreAny (brought_in event) old.reading (standing seen_of room_of led_of ra old before) (standing seen_of room_of led_of ra new after) (λ steps one. tt) (noted both.0), both.1)
      by_result (Err error) ok lost (inr is) =
          subst (λ e. Ends {A = Unit {0}} (Err e) (IsOne event) (brought_in event) old.reading (standing seen_of room_of led_of ra old before) (standing seen_of room_of led_of ra new after)) (sym is) tt

  -- a part of a turn behind another that ended well
  pub goes_both : {A : Type 0} (First Second Both : Place → List EventStep → Place → Type 0) (brings more : List Arrival) (old mid new : Host C) (before between after : R) (result : Result A HostError) (x : Unit {0})
      → ((earlier later : List EventStep) (middle : Place) (from to : Place) → First from earlier middle → Second middle later to → Both from (later ++ earlier) to)
      → Goes seen_of room_of led_of ra {A = Unit {0}} (Ok x) First brings old before mid between → Goes seen_of room_of led_of ra result Second more mid between new after → Goes seen_of room_of led_of ra result Both (brings ++ more) old before new after
  goes_both First Second Both brings more old mid new before between after result x both one two =
      let a = standing seen_of room_of led_of ra old before in
      let b = standing seen_of room_of led_of ra mid between in
      let c = standing seen_of room_of led_of ra new after in
      record {
        ends = ends_both First Second Both brings more old.reading a b c result (λ earlier later is then. both earlier later b.place a.place c.place is then) one.ends (subst (λ r. Ends result Second more r b c) one.reading two.ends);
        only = two.only;
        keeps = keeps_both ra before between after one.keeps two.keeps;
        reading = two.reading ∙ one.reading;
        first = two.first ∙ one.first;
        ready = two.ready ∙ one.ready;
        sent = two.sent ∙ one.sent;
      }

  -- the same, with what is known of the places
  pub goes_both_at : {A : Type 0} (First Second Both : Place → List EventStep → Place → Type 0) (brings more : List Arrival) (old mid new : Host C) (before between after : R) (result : Result A HostError) (x : Unit {0})
      → ((earlier later : List EventStep) → First (standing seen_of room_of led_of ra old before).place earlier (standing seen_of room_of led_of ra mid between).place → Second (standing seen_of room_of led_of ra mid between).place later (standing seen_of room_of led_of ra new after).place
      → Both (standing seen_of room_of led_of ra old before).place (later ++ earlier) (standing seen_of room_of led_of ra new after).place)
      → Goes seen_of room_of led_of ra {A = Unit {0}} (Ok x) First brings old before mid between → Goes seen_of room_of led_of ra result Second more mid between new after → Goes seen_of room_of led_of ra result Both (brings ++ more) old before new after
  goes_both_at First Second Both brings more old mid new before between after result x both one two =
      let a = standing seen_of room_of led_of ra old before in
      let b = standing seen_of room_of led_of ra mid between in
      let c = standing seen_of room_of led_of ra new after in
      record {
        ends = ends_both First Second Both brings more old.reading a b c result both one.ends (subst (λ r. Ends result Second more r b c) one.reading two.ends);
        only = two.only;
        keeps = keeps_both ra before between after one.keeps two.keeps;
        reading = two.reading ∙ one.reading;
        first = two.first ∙ one.first;
        ready = two.ready ∙ one.ready;
        sent = two.sent ∙ one.sent;
      }

  -- an error says nothing of what would have been done
  pub goes_err : (A B : Type 0) (These Those : Place → List EventStep → Place → Type 0) (brings : List Arrival) (old new : Host C) (before after : R) (error : HostError)
      → Goes seen_of room_of led_of ra {A = A} (Err error) These brings old before new after → Goes seen_of room_of led_of ra {A = B} (Err error) Those brings old before new after
  goes_err A B These Those brings old new before after error goes = record {
    ends = ends_err A B These Those brings old.reading (standing seen_of room_of led_of ra old before) (standing seen_of room_of led_of ra new after) error goes.ends;
    only = goes.only;
    keeps = goes.keeps;
    reading = goes.reading;
    first = goes.first;
    ready = goes.ready;
    sent = goes.sent;
  }

  -- nothing was done
  pub goes_none : (Is : Place → List EventStep → Place → Type 0) (host : Host C) (rack : R) → Is (standing seen_of room_of led_of ra host rack).place [] (standing seen_of room_of led_of ra host rack).place
      → Goes seen_of room_of led_of ra {A = Unit {0}} (Ok tt) Is [] host rack host rack
  goes_none Is host rack is = record { ends = does_none Is host.reading (standing seen_of room_of led_of ra host rack) is; only = tt; keeps = keeps_none ra rack; reading = refl; first = refl; ready = refl; sent = refl }

  -- it is more than that
  pub goes_as : (These Those : Place → List EventStep → Place → Type 0) (brings : List Arrival) (old new : Host C) (before after : R) (x : Unit {0})
      → ((from : Place) (steps : List EventStep) → These from steps (standing seen_of room_of led_of ra new after).place → Those from steps (standing seen_of room_of led_of ra new after).place)
      → Goes seen_of room_of led_of ra {A = Unit {0}} (Ok x) These brings old before new after → Goes seen_of room_of led_of ra {A = Unit {0}} (Ok x) Those brings old before new after
  goes_as These Those brings old new before after x more goes = record {
    ends = does_as These Those brings old.reading (standing seen_of room_of led_of ra old before) (standing seen_of room_of led_of ra new after) (more (standing seen_of room_of led_of ra old before).place) goes.ends;
    only = goes.only;
    keeps = goes.keeps;
    reading = goes.reading;
    first = goes.first;
    ready = goes.ready;
    sent = goes.sent;
  }

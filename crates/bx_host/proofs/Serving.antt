-- Turns one by one.
use Rattle.bx_disk.specs.Disks.{Disks}
use Rattle.std.proofs.Common.{◌≡◌, ◌≢◌, ℕ, ◌+◌, ◌≤◌, ◌<◌, ◌⊎◌, ⊎_elim, inl, inr, Some, None, List, [], ◌∷◌, ◌++◌, ◌||◌, Bool, true, false, length, refl, arith, ap, sym, ◌∙◌, subst, append_assoc, Option}
use Rattle.std.proofs.lemmas.List.{append-nil, length-append}
use Rattle.bx_base.specs.declared.names.Actor.{Actor}
use Rattle.bx_disk.specs.Disks.{Image, IsImage}
use Rattle.bx_disk.specs.declared.rack.Rack as racks
use Rattle.bx_driver.specs.Machines.{HasDiskNumbers}
use Rattle.bx_history.specs.Parts.{Arrival, Part}
use Rattle.bx_model.specs.declared.tree.Tree.{Tree}
use Rattle.bx_outside.specs.declared.clock.Clock as clocks
use Rattle.bx_outside.specs.declared.datagram.Datagram.{Datagram}
use Rattle.bx_outside.specs.declared.link.Link as links
use Rattle.bx_outside.specs.declared.sink.Sink as sinks
use Rattle.bx_world_events.specs.Refusals.{Seen}
use Rattle.bx_host.specs.Lost.{is_lost}
use Rattle.bx_host.specs.Sending.{counted}
use Rattle.bx_host.specs.Serves.{AreTurns, Breaks, BreaksTurn, DoesTurn, IsOwn, KeepsSink, all_asked, all_readings, all_steps, is_ready, ready_text}
use Rattle.bx_host.specs.Standing.{CanGo}
use Rattle.bx_host.specs.Steps.{brought_by, parts_with, sent_by, stopped_by}
use Rattle.bx_host.specs.Turns.{IsHostTurn, Turn, came, is_live, steps_in}
use Rattle.bx_host.specs.declared.error.HostError.{HostError}
use Rattle.bx_host.specs.declared.error.HostError.TheVariants.{Disk, Write, OutOfMemory}
use Rattle.bx_host.specs.declared.host.Host.{Host}
use Rattle.bx_host.proofs.Moving.{brought_both, parts_both, sent_both, stopped_both}

-- a count with some, and then with others
pub counted_both : (count : ℕ) (earlier later : List Datagram) → counted (counted count earlier) later ≡ counted count (earlier ++ later)
counted_both count earlier later = let e = length-append earlier later in grind (arith, e)

pub sink_same : {S : Type 0} (si : sinks.Ghosts S) (a : S) → KeepsSink si a a
sink_same si a = record { later = omega arith; tells = λ tells. tells }

pub sink_then : {S : Type 0} (si : sinks.Ghosts S) (a b c : S) → KeepsSink si a b → KeepsSink si b c → KeepsSink si a c
sink_then si a b c one two = record { later = omega (arith, one.later, two.later); tells = λ tells. two.tells (one.tells tells) }

-- the line is written once
ready_both : (was live : Bool) → ready_text false was ++ ready_text was (was || live) ≡ ready_text false (was || live)
ready_both true live = append-nil (ready_text false true)
ready_both false live = refl

-- datagrams among some, and among others
pub came_both : (earlier later : List (Option Datagram)) → came (earlier ++ later) ≡ came earlier ++ came later
came_both [] later = refl
came_both (None ∷ earlier) later = came_both earlier later
came_both (Some datagram ∷ earlier) later = ap (λ (l : List Arrival). record { node = 0; client = datagram.client; bytes = datagram.bytes } ∷ l) (came_both earlier later)

module _ {C R L K S : Type 0} (seen_of : C → Seen) (room_of : C → List ℕ → Type 0) (led_of : C → Disks → Tree → List Part → Type 0) (ra : racks.Ghosts R) (li : links.Ghosts L) (ck : clocks.Ghosts K) (si : sinks.Ghosts S) where
  -- so far these turns were done
  pub record SoFar (cluster : C) (before : R) (link : L) (clock : K) (out : S) (host : Host C) (after : R) (later : L) (ticked : K) (wrote : S) (turns : ℕ) : Type 0 where
    pub done : List Turn
    pub many : length done ≡ turns
    pub first : host.first ≡ (seen_of cluster).most.term
    pub are : AreTurns (seen_of cluster).most.term (seen_of cluster) (seen_of cluster).greatest done (seen_of host.cluster) host.reading
    pub leads : (tree : Tree) (parts : List Part) → ra.tells before → led_of cluster (ra.state before) tree parts → led_of host.cluster (ra.state after) tree (parts_with (all_steps done) parts)
    pub stops : host.stopped ≡ stopped_by (all_steps done)
    pub brought : brought_by (all_steps done) ≡ came (all_asked done)
    pub given : li.tells link → li.given later ≡ li.given link ++ all_asked done
    pub sent : li.tells link → li.sent later ≡ li.sent link ++ sent_by (all_steps done)
    pub count_is : host.sent ≡ counted 0 (sent_by (all_steps done))
    pub readings : (earlier : List ℕ) → ck.gave clock earlier → ck.gave ticked (earlier ++ all_readings done)
    pub ready : host.ready ≡ is_ready (seen_of cluster).most.term done
    pub written : si.tells out → si.written wrote ≡ si.written out ++ ready_text false (is_ready (seen_of cluster).most.term done)

  pub one_more : (cluster : C) (before : R) (link : L) (clock : K) (out : S) (host new : Host C) (middle after : R) (between later : L) (ticked again : K) (wrote writes : S) (turns now : ℕ)
      → (ra.tells before → ra.tells middle) → (li.tells link → li.tells between) → (si.tells out → si.tells wrote)
      → ((readings : List ℕ) → ck.gave ticked readings → ck.gave again (readings ++ now ∷ []))
      → SoFar cluster before link clock out host middle between ticked wrote turns
      → DoesTurn seen_of room_of led_of ra li si now host middle new after between later wrote writes
      → SoFar cluster before link clock out new after later again writes (turns + 1)
  one_more cluster before link clock out host new middle after between later ticked again wrote writes turns now rack_tells link_tells out_tells gave so does =
      let first = (seen_of cluster).most.term in
      let steps = steps_in does.turn in
      let was = is_ready first so.done in
      let live = is_live first does.turn.shown.most in
      let ready_now : new.ready ≡ (was || live) = does.ready ∙ ap (λ b. b || is_live host.first does.turn.shown.most) so.ready ∙ ap (λ f. was || is_live f does.turn.shown.most) so.first in
      let told : ready_text false was ++ ready_text host.ready new.ready ≡ ready_text false (was || live) =
      ap (λ b. ready_text false was ++ ready_text b new.ready) so.ready ∙ ap (λ b. ready_text false was ++ ready_text was b) ready_now ∙ ready_both was live in
      record {
        done = does.turn ∷ so.done;
        many = omega (arith, so.many);
        first = does.first ∙ so.first;
        are = (seen_of host.cluster, host.reading, so.are, subst (λ f. IsHostTurn f (seen_of host.cluster) host.reading does.turn (seen_of new.cluster) new.reading) so.first does.is);
        leads = λ tree parts tells led. subst (led_of new.cluster (ra.state after) tree) (sym (parts_both (all_steps so.done) steps parts)) (does.leads tree (parts_with (all_steps so.done) parts) (rack_tells tells) (so.leads tree parts tells led));
        stops = does.stops ∙ ap (λ (l : List Actor). l ++ stopped_by steps) so.stops ∙ sym (stopped_both (all_steps so.done) steps);
        brought = brought_both (all_steps so.done) steps ∙ ap (λ (l : List Arrival). l ++ brought_by steps) so.brought ∙ ap (λ (l : List Arrival). came (all_asked so.done) ++ l) does.brought ∙ sym (came_both (all_asked so.done) does.turn.asked);
        given = λ tells. does.given (link_tells tells) ∙ ap (λ (l : List (Option Datagram)). l ++ does.turn.asked) (so.given tells) ∙ append_assoc (li.given link) (all_asked so.done) does.turn.asked;
        sent = λ tells. does.sent (link_tells tells) ∙ ap (λ (l : List Datagram). l ++ sent_by steps) (so.sent tells) ∙ append_assoc (li.sent link) (sent_by (all_steps so.done)) (sent_by steps) ∙ ap (λ (l : List Datagram). li.sent link ++ l) (sym (sent_both (all_steps so.done) steps));
        count_is = does.count ∙ ap (λ n. counted n (sent_by steps)) so.count_is ∙ counted_both 0 (sent_by (all_steps so.done)) (sent_by steps) ∙ ap (counted 0) (sym (sent_both (all_steps so.done) steps));
        readings = λ earlier gives. subst (ck.gave again) (append_assoc earlier (all_readings so.done) (now ∷ []) ∙ ap (λ n. earlier ++ (all_readings so.done ++ n ∷ [])) (sym does.now_is)) (gave (earlier ++ all_readings so.done) (so.readings earlier gives));
        ready = ready_now;
        written = λ tells. does.written (out_tells tells) ∙ ap (λ (l : List ℕ). l ++ ready_text host.ready new.ready) (so.written tells) ∙ append_assoc (si.written out) (ready_text false was) (ready_text host.ready new.ready) ∙ ap (λ (l : List ℕ). si.written out ++ l) told;
      }

  -- a server before its first turn
  abbrev pub starting : C → Host C
  starting cluster = record { cluster = cluster; first = (seen_of cluster).most.term; reading = (seen_of cluster).greatest; left = 0; answers = []; stopped = []; ready = false; sent = 0 }

  pub so_begins : (cluster : C) (before : R) (link : L) (clock : K) (out : S) → SoFar cluster before link clock out (starting cluster) before link clock out 0
  so_begins cluster before link clock out = record {
    done = [];
    many = refl;
    first = refl;
    are = (refl, refl);
    leads = λ tree parts tells led. led;
    stops = refl;
    brought = refl;
    given = λ tells. sym (append-nil (li.given link));
    sent = λ tells. sym (append-nil (li.sent link));
    count_is = refl;
    readings = λ earlier gives. subst (ck.gave clock) (sym (append-nil earlier)) gives;
    ready = refl;
    written = λ tells. sym (append-nil (si.written out));
  }

  pub can_begin : (cluster : C) (rack : R) → 0 < (seen_of cluster).nodes → HasDiskNumbers (seen_of cluster) → (seen_of cluster).greatest ≤ 4294967295999 → room_of cluster (ra.state rack).sizes → CanGo seen_of room_of led_of ra (starting cluster) rack
  can_begin cluster rack node disks time room = record { node = node; disks = disks; clock = omega arith; time = time; room = room; whole = refl }

  module _ (shown_of : C → List ℕ → Image → Tree → List Part → Type 0) (shows : (w : C) (x : Disks) (tree : Tree) (parts : List Part) (image : Image) → led_of w x tree parts → IsImage x image → shown_of w x.sizes image tree parts) where
    -- a turn broke off behind others
    pub serve_breaks : (cluster : C) (before : R) (link : L) (clock : K) (out : S) (host new : Host C) (middle after : R) (between later : L) (ticked : K) (wrote : S) (count turns : ℕ) (error : HostError)
        → (ra.tells before → ra.tells middle) → (li.tells link → li.tells between) → count ≤ turns
        → SoFar cluster before link clock out host middle between ticked wrote count
        → BreaksTurn seen_of room_of led_of ra li si error host middle new after between later
        → Breaks seen_of shown_of led_of ra li ck si error turns cluster before after link later
    serve_breaks cluster before link clock out host new middle after between later ticked wrote count turns error rack_tells link_tells few so turn =
        let all = all_steps so.done in
        let leads : error ≢ OutOfMemory → (tree : Tree) (parts : List Part) → ra.tells before → led_of cluster (ra.state before) tree parts → led_of new.cluster (ra.state after) tree (parts_with (turn.steps ++ all) parts) =
        λ known tree parts tells led. subst (led_of new.cluster (ra.state after) tree) (sym (parts_both all turn.steps parts)) (turn.leads known tree (parts_with all parts) (rack_tells tells) (so.leads tree parts tells led)) in
        let brought_now : brought_by (turn.steps ++ all) ≡ came (all_asked so.done) ++ brought_by turn.steps = brought_both all turn.steps ∙ ap (λ (l : List Arrival). l ++ brought_by turn.steps) so.brought in
        record {
          own = turn.own;
          done = so.done;
          to = seen_of host.cluster;
          greatest = host.reading;
          few = omega (arith, so.many, few);
          are = so.are;
          reading = new.reading;
          steps = turn.steps;
          place = turn.to;
          along = turn.along;
          last = new.cluster;
          leads = leads;
          images = λ known tree parts image tells led is. shows new.cluster (ra.state after) tree (parts_with (turn.steps ++ all) parts) image (leads known tree parts tells led) is;
          lost = λ disk. ap is_lost (stopped_both all turn.steps ∙ ap (λ (l : List Actor). l ++ stopped_by turn.steps) (sym so.stops)) ∙ turn.lost disk;
          asked = turn.asked;
          brought = ⊎_elim (λ is. inl (brought_now ∙ ap (λ (l : List Arrival). came (all_asked so.done) ++ l) is ∙ sym (came_both (all_asked so.done) turn.asked))) (λ is. inr (brought_now ∙ ap (λ (l : List Arrival). came (all_asked so.done) ++ l) is ∙ append-nil (came (all_asked so.done)))) turn.brought;
          given = λ tells. turn.given (link_tells tells) ∙ ap (λ (l : List (Option Datagram)). l ++ turn.asked) (so.given tells) ∙ append_assoc (li.given link) (all_asked so.done) turn.asked;
          sent = λ tells.
              let it = turn.sent (link_tells tells) in (
                sent_by all ++ it.0,
                it.1,
                sent_both all turn.steps ∙ ap (λ (l : List Datagram). sent_by all ++ l) it.2 ∙ sym (append_assoc (sent_by all) it.0 it.1),
                it.3 ∙ ap (λ (l : List Datagram). l ++ it.0) (so.sent tells) ∙ append_assoc (li.sent link) (sent_by all) it.0,
              );
        }

    -- the last line wasn't written
    pub done_breaks : (cluster : C) (before : R) (link : L) (clock : K) (out : S) (host : Host C) (after : R) (later : L) (ticked : K) (wrote : S) (count turns : ℕ) (error : HostError)
        → count ≤ turns → (error ≡ Write) ⊎ (error ≡ OutOfMemory) → SoFar cluster before link clock out host after later ticked wrote count → Breaks seen_of shown_of led_of ra li ck si error turns cluster before after link later
    done_breaks cluster before link clock out host after later ticked wrote count turns error few why so = record {
      own = own_of why;
      done = so.done;
      to = seen_of host.cluster;
      greatest = host.reading;
      few = omega (arith, so.many, few);
      are = so.are;
      reading = host.reading;
      steps = [];
      place = record { seen = seen_of host.cluster; left = 1000000 };
      along = refl;
      last = host.cluster;
      leads = λ known tree parts tells led. so.leads tree parts tells led;
      images = λ known tree parts image tells led is. shows host.cluster (ra.state after) tree (parts_with (all_steps so.done) parts) image (so.leads tree parts tells led) is;
      lost = λ disk. absurd (never disk why);
      asked = [];
      brought = inr so.brought;
      given = λ tells. so.given tells ∙ ap (λ (l : List (Option Datagram)). li.given link ++ l) (sym (append-nil (all_asked so.done)));
      sent = λ tells. (sent_by (all_steps so.done), [], sym (append-nil (sent_by (all_steps so.done))), so.sent tells);
    }
      where
        own_of : (error ≡ Write) ⊎ (error ≡ OutOfMemory) → IsOwn error
        own_of (inl is) = subst IsOwn (sym is) tt
        own_of (inr is) = subst IsOwn (sym is) tt

        never : error ≡ Disk → (error ≡ Write) ⊎ (error ≡ OutOfMemory) → ⊥
        never disk (inl is) = let wrong : Disk ≡ Write = sym disk ∙ is in cc
        never disk (inr is) = let wrong : Disk ≡ OutOfMemory = sym disk ∙ is in cc

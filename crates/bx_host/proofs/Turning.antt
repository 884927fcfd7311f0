-- A turn, put together.
use Rattle.std.proofs.Common.{◌≡◌, ◌≢◌, ℕ, List, [], ◌++◌, ◌||◌, ◌⊎◌, inl, inr, Bool, true, refl, ap, sym, ◌∙◌, subst, append_assoc, Option, Ok, Err}
use Rattle.std.proofs.lemmas.List.{append-nil}
use Rattle.bx_base.specs.declared.names.Actor.{Actor}
use Rattle.bx_disk.specs.Disks.{Disks}
use Rattle.bx_disk.specs.declared.rack.Rack as racks
use Rattle.bx_history.specs.Parts.{Arrival, Part}
use Rattle.bx_model.specs.declared.tree.Tree.{Tree}
use Rattle.bx_outside.specs.declared.datagram.Datagram.{Datagram}
use Rattle.bx_outside.specs.declared.link.Link as links
use Rattle.bx_outside.specs.declared.sink.Sink as sinks
use Rattle.bx_world_events.specs.Refusals.{Seen}
use Rattle.bx_host.specs.Hearing.{Hears}
use Rattle.bx_host.specs.Lost.{is_lost}
use Rattle.bx_host.specs.Sending.{SendsFront, counted}
use Rattle.bx_host.specs.Serves.{BreaksTurn, DoesTurn, IsOwn, ready_text}
use Rattle.bx_host.specs.Standing.{AreAny, Does, Goes, standing}
use Rattle.bx_host.specs.Steps.{IsAt, Along, Place, EventStep, brought_by, owed, parts_with, sent_by, stopped_by}
use Rattle.bx_host.specs.Turns.{AllTicked, IsServed, IsHostTurn, Turn, came, is_live, reading_for, steps_in, tidied}
use Rattle.bx_host.specs.declared.error.HostError.{HostError}
use Rattle.bx_host.specs.declared.error.HostError.TheVariants.{Disk, Link, Write, NoLabel, OutOfMemory, NoMajority, Spent}
use Rattle.bx_host.specs.declared.host.Host.{Host}
use Rattle.bx_host.proofs.Moving.{brought_both, does_as, does_both, parts_both, sent_both, stopped_both}

not_disk : (error : HostError) → (error ≡ Link) ⊎ (error ≡ OutOfMemory) → error ≢ Disk
not_disk error (inl is) = λ wrong. let e : Link ≡ Disk = sym is ∙ wrong in cc
not_disk error (inr is) = λ wrong. let e : OutOfMemory ≡ Disk = sym is ∙ wrong in cc

own_of : (error : HostError) → (error ≡ Link) ⊎ (error ≡ OutOfMemory) → IsOwn error
own_of error (inl is) = subst IsOwn (sym is) tt
own_of error (inr is) = subst IsOwn (sym is) tt

module _ {C R L S : Type 0} (seen_of : C → Seen) (room_of : C → List ℕ → Type 0) (led_of : C → Disks → Tree → List Part → Type 0) (ra : racks.Ghosts R) (li : links.Ghosts L) (si : sinks.Ghosts S) where
  -- a server where a turn begins
  abbrev pub begun : Host C → ℕ → Host C
  begun old now = record old { reading = reading_for old.reading now; left = 1000000; answers = [] }

  -- what was done is told where a turn breaks off
  pub breaks : (old new : Host C) (before after : R) (link later : L) (now : ℕ) (error : HostError) (asked : List (Option Datagram)) → IsOwn error
      → Does AreAny (came asked) (reading_for old.reading now) (standing seen_of room_of led_of ra (begun old now) before) (standing seen_of room_of led_of ra new after) → new.reading ≡ reading_for old.reading now
      → (error ≡ Disk → is_lost new.stopped ≡ true) → (li.tells link → li.given later ≡ li.given link ++ asked) → (li.tells link → SendsFront (owed new.answers) (li.sent link) (li.sent later))
      → BreaksTurn seen_of room_of led_of ra li si error old before new after link later
  breaks old new before after link later now error asked own does reading lost given sent = record {
    own = own;
    steps = does.steps;
    to = (standing seen_of room_of led_of ra new after).place;
    asked = asked;
    brought = inl does.brought;
    along = subst (λ r. Along (IsAt r) (record { seen = seen_of old.cluster; left = 1000000 }) does.steps (standing seen_of room_of led_of ra new after).place) (sym reading) does.along;
    leads = λ known tree parts tells led. (does.leads tree parts (tells, led)).1;
    lost = λ disk. ap is_lost (sym does.stops) ∙ lost disk;
    given = given;
    sent = λ tells. let it = sent tells in (it.0, it.1, sym does.owes ∙ it.2, it.3);
  }

  -- nothing is told where memory ran out
  pub breaks_memory : (old new : Host C) (before after : R) (link later : L) (error : HostError) (asked : List (Option Datagram)) → error ≡ OutOfMemory
      → (li.tells link → li.given later ≡ li.given link ++ asked) → (li.tells link → li.sent later ≡ li.sent link)
      → BreaksTurn seen_of room_of led_of ra li si error old before new after link later
  breaks_memory old new before after link later error asked is given sent = record {
    own = subst IsOwn (sym is) tt;
    steps = [];
    to = record { seen = seen_of old.cluster; left = 1000000 };
    asked = asked;
    brought = inr refl;
    along = refl;
    leads = λ known tree parts tells led. absurd (known is);
    lost = λ disk. absurd (let wrong : OutOfMemory ≡ Disk = sym is ∙ disk in cc);
    given = given;
    sent = λ tells. ([], [], refl, sent tells ∙ sym (append-nil (li.sent link)));
  }

  -- in its ticks
  pub breaks_ticks : (old ticked : Host C) (before after : R) (link : L) (now : ℕ) (error : HostError)
      → Goes seen_of room_of led_of ra {A = Unit {0}} (Err error) (AllTicked old.first (reading_for old.reading now)) [] (begun old now) before ticked after
      → BreaksTurn seen_of room_of led_of ra li si error old before ticked after link link
  breaks_ticks old ticked before after link now Disk goes =
      breaks old ticked before after link link now Disk [] tt goes.ends.0 goes.reading (λ disk. goes.ends.1) (λ tells. sym (append-nil (li.given link))) (λ tells. ([], owed ticked.answers, refl, sym (append-nil (li.sent link))))
  breaks_ticks old ticked before after link now OutOfMemory goes = breaks_memory old ticked before after link link OutOfMemory [] refl (λ tells. sym (append-nil (li.given link))) (λ tells. refl)
  breaks_ticks old ticked before after link now Link goes =
      breaks old ticked before after link link now Link [] tt goes.ends goes.reading (λ disk. cc) (λ tells. sym (append-nil (li.given link))) (λ tells. ([], owed ticked.answers, refl, sym (append-nil (li.sent link))))
  breaks_ticks old ticked before after link now Write goes =
      breaks old ticked before after link link now Write [] tt goes.ends goes.reading (λ disk. cc) (λ tells. sym (append-nil (li.given link))) (λ tells. ([], owed ticked.answers, refl, sym (append-nil (li.sent link))))
  breaks_ticks old ticked before after link now (NoLabel disk) goes = absurd goes.ends
  breaks_ticks old ticked before after link now NoMajority goes = absurd goes.ends
  breaks_ticks old ticked before after link now (Spent boot) goes = absurd goes.ends

  -- where the line can't be written
  pub breaks_ready : (old ticked : Host C) (before after : R) (link : L) (now : ℕ) (error : HostError) → error ≡ Write
      → Goes seen_of room_of led_of ra {A = Unit {0}} (Ok tt) (AllTicked old.first (reading_for old.reading now)) [] (begun old now) before ticked after
      → BreaksTurn seen_of room_of led_of ra li si error old before ticked after link link
  breaks_ready old ticked before after link now error is goes =
      let does = does_as (AllTicked old.first (reading_for old.reading now)) AreAny [] (reading_for old.reading now) (standing seen_of room_of led_of ra (begun old now) before) (standing seen_of room_of led_of ra ticked after) (λ steps its. tt) goes.ends in
      breaks old ticked before after link link now error [] (subst IsOwn (sym is) tt) does goes.reading (λ disk. absurd (let wrong : Write ≡ Disk = sym is ∙ disk in cc)) (λ tells. sym (append-nil (li.given link))) (λ tells. ([], owed ticked.answers, refl, sym (append-nil (li.sent link))))

  -- both parts of a turn
  pub turn_both : (First Second : Place → List EventStep → Place → Type 0) (brings : List Arrival) (old ticked heard : Host C) (before between after : R) (now : ℕ) (reading : ℕ) → reading ≡ reading_for old.reading now
      → Does First [] (reading_for old.reading now) (standing seen_of room_of led_of ra (begun old now) before) (standing seen_of room_of led_of ra ticked between)
      → Does Second brings reading (standing seen_of room_of led_of ra ticked between) (standing seen_of room_of led_of ra heard after)
      → Does AreAny brings (reading_for old.reading now) (standing seen_of room_of led_of ra (begun old now) before) (standing seen_of room_of led_of ra heard after)
  turn_both First Second brings old ticked heard before between after now reading is one two =
      let b = standing seen_of room_of led_of ra ticked between in
      let c = standing seen_of room_of led_of ra heard after in
      does_both First Second AreAny [] brings (reading_for old.reading now) (standing seen_of room_of led_of ra (begun old now) before) b c (λ earlier later its then. tt) one (subst (λ r. Does Second brings r b c) is two)

  -- while it hears
  pub breaks_heard : (old ticked heard : Host C) (before between after : R) (link later : L) (now : ℕ) (ready : Bool) (error : HostError)
      → Goes seen_of room_of led_of ra {A = Unit {0}} (Ok tt) (AllTicked old.first (reading_for old.reading now)) [] (begun old now) before ticked between
      → Hears seen_of room_of led_of ra li {A = Unit {0}} (Err error) (record ticked { ready = ready }) between heard after link later
      → BreaksTurn seen_of room_of led_of ra li si error old before heard after link later
  breaks_heard old ticked heard before between after link later now ready Disk goes hears =
      breaks old heard before after link later now Disk hears.asked tt (turn_both _ AreAny (came hears.asked) old ticked heard before between after now ticked.reading goes.reading goes.ends hears.ends.0) (hears.reading ∙ goes.reading) (λ disk. hears.ends.1) hears.given
      (λ tells. ([], owed heard.answers, refl, hears.quiet tells ∙ sym (append-nil (li.sent link))))
  breaks_heard old ticked heard before between after link later now ready Link goes hears =
      breaks old heard before after link later now Link hears.asked tt (turn_both _ AreAny (came hears.asked) old ticked heard before between after now ticked.reading goes.reading goes.ends hears.ends) (hears.reading ∙ goes.reading) (λ disk. cc) hears.given
      (λ tells. ([], owed heard.answers, refl, hears.quiet tells ∙ sym (append-nil (li.sent link))))
  breaks_heard old ticked heard before between after link later now ready Write goes hears =
      breaks old heard before after link later now Write hears.asked tt (turn_both _ AreAny (came hears.asked) old ticked heard before between after now ticked.reading goes.reading goes.ends hears.ends) (hears.reading ∙ goes.reading) (λ disk. cc) hears.given
      (λ tells. ([], owed heard.answers, refl, hears.quiet tells ∙ sym (append-nil (li.sent link))))
  breaks_heard old ticked heard before between after link later now ready OutOfMemory goes hears = breaks_memory old heard before after link later OutOfMemory hears.asked refl hears.given hears.quiet
  breaks_heard old ticked heard before between after link later now ready (NoLabel disk) goes hears = absurd hears.ends
  breaks_heard old ticked heard before between after link later now ready NoMajority goes hears = absurd hears.ends
  breaks_heard old ticked heard before between after link later now ready (Spent boot) goes hears = absurd hears.ends

  -- while it sends
  pub breaks_sending : (old ticked heard new : Host C) (before between after : R) (link later last : L) (now : ℕ) (ready : Bool) (error : HostError) → (error ≡ Link) ⊎ (error ≡ OutOfMemory)
      → Goes seen_of room_of led_of ra {A = Unit {0}} (Ok tt) (AllTicked old.first (reading_for old.reading now)) [] (begun old now) before ticked between
      → Hears seen_of room_of led_of ra li {A = Unit {0}} (Ok tt) (record ticked { ready = ready }) between heard after link later
      → new ≡ record heard { sent = new.sent } → (li.tells later → SendsFront (owed heard.answers) (li.sent later) (li.sent last)) → (li.tells later → li.given last ≡ li.given later)
      → BreaksTurn seen_of room_of led_of ra li si error old before new after link last
  breaks_sending old ticked heard new before between after link later last now ready error other goes hears is sends given =
      let does = turn_both _ _ (came hears.asked) old ticked heard before between after now ticked.reading goes.reading goes.ends hears.ends in
      subst (λ (h : Host C). BreaksTurn seen_of room_of led_of ra li si error old before h after link last) (sym is)
      (breaks old (record heard { sent = new.sent }) before after link last now error hears.asked (own_of error other) does (hears.reading ∙ goes.reading) (λ disk. absurd (not_disk error other disk)) (λ tells. given (hears.keeps_link.tells tells) ∙ hears.given tells)
      (λ tells. let it = sends (hears.keeps_link.tells tells) in (it.0, it.1, it.2, it.3 ∙ ap (λ (l : List Datagram). l ++ it.0) (hears.quiet tells))))

  -- as a whole
  pub turn_done : (old ticked heard answered new : Host C) (before between after : R) (link later last : L) (out wrote : S) (now : ℕ) (ready : Bool)
      → Goes seen_of room_of led_of ra {A = Unit {0}} (Ok tt) (AllTicked old.first (reading_for old.reading now)) [] (begun old now) before ticked between
      → ready ≡ (ticked.ready || is_live ticked.first (seen_of ticked.cluster).most)
      → (si.tells out → si.written wrote ≡ si.written out ++ ready_text ticked.ready ready)
      → Hears seen_of room_of led_of ra li {A = Unit {0}} (Ok tt) (record ticked { ready = ready }) between heard after link later
      → (li.tells later → li.sent last ≡ li.sent later ++ owed heard.answers) → (li.tells later → li.given last ≡ li.given later)
      → answered ≡ record heard { sent = counted heard.sent (owed heard.answers) }
      → new ≡ record answered { cluster = new.cluster } → seen_of new.cluster ≡ tidied (seen_of answered.cluster)
      → ((x : Disks) (tree : Tree) (parts : List Part) → led_of answered.cluster x tree parts → led_of new.cluster x tree parts)
      → DoesTurn seen_of room_of led_of ra li si now old before new after link last out wrote
  turn_done old ticked heard answered new before between after link later last out wrote now ready goes ready_is written hears sent_all given_all answered_is new_is tidy stays =
      let a = standing seen_of room_of led_of ra (begun old now) before in
      let b = standing seen_of room_of led_of ra ticked between in
      let d = standing seen_of room_of led_of ra heard after in
      let reading = reading_for old.reading now in
      let Served : Place → List EventStep → Place → Type 0 = λ from steps to. IsServed ticked.first ticked.reading from hears.asked steps to in
      let serves : Does Served (came hears.asked) reading b d = subst (λ r. Does Served (came hears.asked) r b d) goes.reading hears.ends in
      let turn : Turn = record { now = now; ticked = goes.ends.steps; shown = seen_of ticked.cluster; asked = hears.asked; called = serves.steps } in
      let reading_is : new.reading ≡ reading = ap (λ (h : Host C). h.reading) new_is ∙ ap (λ (h : Host C). h.reading) answered_is ∙ hears.reading ∙ goes.reading in
      let ready_now : new.ready ≡ ready = ap (λ (h : Host C). h.ready) new_is ∙ ap (λ (h : Host C). h.ready) answered_is ∙ hears.ready in
      let ticks = goes.ends in
      let owes : owed heard.answers ≡ sent_by (steps_in turn) = serves.owes ∙ ap (λ (l : List Datagram). l ++ sent_by serves.steps) ticks.owes ∙ sym (sent_both ticks.steps serves.steps) in
      let stops : heard.stopped ≡ old.stopped ++ stopped_by (steps_in turn) =
      serves.stops ∙ ap (λ (l : List Actor). l ++ stopped_by serves.steps) ticks.stops ∙ append_assoc old.stopped (stopped_by ticks.steps) (stopped_by serves.steps) ∙ ap (λ (l : List Actor). old.stopped ++ l) (sym (stopped_both ticks.steps serves.steps)) in
      let is : IsHostTurn old.first (seen_of old.cluster) old.reading turn (seen_of new.cluster) new.reading = record {
        reads = reading_is;
        ticked = b.place;
        served = d.place;
        ticks = subst (λ r. AllTicked old.first r a.place goes.ends.steps b.place) (sym reading_is) goes.ends.is;
        shows = refl;
        serves = subst (λ r. IsServed old.first r b.place hears.asked serves.steps d.place) (goes.reading ∙ sym reading_is) (subst (λ f. IsServed f ticked.reading b.place hears.asked serves.steps d.place) goes.first serves.is);
        ends = tidy ∙ ap (λ (h : Host C). tidied (seen_of h.cluster)) answered_is;
      } in
      record {
        turn = turn;
        now_is = refl;
        is = is;
        leads = λ tree parts tells led. stays (ra.state after) tree (parts_with (steps_in turn) parts) (subst (λ (h : Host C). led_of h.cluster (ra.state after) tree (parts_with (steps_in turn) parts)) (sym answered_is)
            (subst (λ l. led_of heard.cluster (ra.state after) tree l) (sym (parts_both ticks.steps serves.steps parts)) (serves.leads tree (parts_with ticks.steps parts) (ticks.leads tree parts (tells, led))).1));
        stops = ap (λ (h : Host C). h.stopped) new_is ∙ ap (λ (h : Host C). h.stopped) answered_is ∙ stops;
        brought = brought_both ticks.steps serves.steps ∙ ap (λ (l : List Arrival). l ++ brought_by serves.steps) ticks.brought ∙ serves.brought;
        given = λ tells. given_all (hears.keeps_link.tells tells) ∙ hears.given tells;
        sent = λ tells. sent_all (hears.keeps_link.tells tells) ∙ ap (λ (l : List Datagram). l ++ owed heard.answers) (hears.quiet tells) ∙ ap (λ (l : List Datagram). li.sent link ++ l) owes;
        count = ap (λ (h : Host C). h.sent) new_is ∙ ap (λ (h : Host C). h.sent) answered_is ∙ ap (λ n. counted n (owed heard.answers)) (hears.sent ∙ goes.sent) ∙ ap (counted old.sent) owes;
        ready = ready_now ∙ ready_is ∙ ap (λ w. w || is_live ticked.first (seen_of ticked.cluster).most) goes.ready ∙ ap (λ f. old.ready || is_live f (seen_of ticked.cluster).most) goes.first;
        written = λ tells. written tells ∙ ap (λ w. si.written out ++ ready_text w ready) goes.ready ∙ ap (λ w. si.written out ++ ready_text old.ready w) (sym ready_now);
        first = ap (λ (h : Host C). h.first) new_is ∙ ap (λ (h : Host C). h.first) answered_is ∙ hears.first ∙ goes.first;
      }

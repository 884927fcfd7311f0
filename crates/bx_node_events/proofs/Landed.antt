-- What a node's log wrote is acknowledged, and the write of its next work is sent: the nodes stand.
use Rattle.std.proofs.Common.{◌≡◌, ◌≢◌, ◌∙◌, inl, inr, ℕ, ◌+◌, ◌<◌, Bool, true, false, List, [], ◌∷◌, length, Contains, Option, Some, None, IsSomeAnd, refl, sym, ap, subst, arith}
use Rattle.bx_base.specs.declared.names.Point.{Point}
use Rattle.bx_disk.specs.Disks.{Disks, Image}
use Rattle.bx_facts.specs.declared.register.Register as register
use Rattle.bx_facts.specs.declared.store.Store as store
use Rattle.bx_facts.specs.Chains.{LivesIn, last}
use Rattle.bx_facts.specs.Writes.{Sent, WritesIn}
use Rattle.bx_node_events.specs.Works.{LeavesWorks}
use Rattle.bx_node_events.proofs.Acting as acting
use Rattle.bx_node_events.proofs.Acting.{IsChanged, IsLive, IsOwn, Outcome, course_then, machine_then}
use Rattle.bx_node_events.proofs.Working as working
use Rattle.bx_node_events.proofs.Working.{IsSending, SureBehind}
use Rattle.bx_node_landings.proofs.Landed.{body_at, first_at, others_at}
use Rattle.bx_node_machines.specs.Machines as words
use Rattle.bx_node_machines.specs.Machines.{IsAbout, IsAtWork, IsDoubtIn, IsDoubtOf, IsFlying, IsWriting, MachineView, Replying, Scene, Stage}
use Rattle.bx_node_machines.specs.Nodes.{NodesStand, known_of, scene_of}
use Rattle.bx_node_machines.proofs.Owning as owning
use Rattle.bx_node_sends.proofs.Sent.{with_write}
use Rattle.bx_facts.specs.declared.owners.Owners as owners
use Rattle.bx_places.specs.Places.{block_place, log_device}
use Rattle.bx_post.specs.declared.packets.Letter.{Letter}
use Rattle.bx_records.specs.Drafts.{Changed}
use Rattle.bx_records.specs.declared.runs.Run.{Run}
use Rattle.bx_redo.specs.Stands.{IsAcknowledged, bytes_of, is_written, stored}
use Rattle.bx_redo.specs.Steps.{writes}
use Rattle.bx_redo.specs.View.{LogView}
use Rattle.bx_redo.specs.declared.work.Work.{Work}
use Rattle.bx_redo.specs.declared.work.Work.TheVariants as works
use Rattle.bx_redo.proofs.Stored.{done_stored}
use Rattle.bx_rows.specs.Words.{is_taken}
use Rattle.bx_rows.specs.declared.session.SessionRow.{SessionRow}
use Rattle.bx_views.specs.Attempts.{Deed}
use Rattle.bx_views.specs.Truths.{Hints, Truth}
use Rattle.bx_volume.specs.Overlay.{Logs, with_log}
use Rattle.bx_volume.specs.Records.{Logged, newest_in}
use Rattle.bx_volume.proofs.Overlay.{log_here, log_there}
use Rattle.bx_world_chains.proofs.Rows.{lives_of, taken_of}
use Rattle.bx_node_machines.specs.Recoveries.{RecoversNone}
use Rattle.bx_world_standing.specs.Rights.{IsOfSlot}
use Rattle.bx_world_logs.specs.Logs.{IsLogOf, OfLog, Slot, SlotStands, begins, idle, view_of, writes_in}
use Rattle.bx_world_logs.proofs.Moving.{slot_here, with_slot}
use Rattle.bx_world_logs.proofs.Regions.{home_in_none, writes_within}
use Rattle.bx_world_standing.specs.Parts.{Clocks}
use Rattle.bx_world_standing.specs.Standing.{Course, Known, StandsAt, SureOf}
use Rattle.bx_world_standing.proofs.Owns.{own_is}

-- What a log's work wrote is sure: it is acknowledged, for the log as its slot has it.
pub acknowledged : (Sure : ℕ → ℕ → List ℕ → Type 0) (devices : ℕ) (log : LogView) (slot count : ℕ) (before : Image)
    → log.slot ≡ slot → log.device ≡ log_device slot devices → log.count ≡ count → log.out ≡ true → log.work ≢ works.Idle
    → ((d s : ℕ) (content : List ℕ) → WritesIn (writes log log.work).1 d s content → Sure d s content)
    → IsAcknowledged Sure Sure before (stored before (view_of devices slot count log.work)) (view_of devices slot count log.work) (bytes_of log.work)
acknowledged Sure devices log slot count before same device many out some sure =
    subst (λ (l : LogView). IsAcknowledged Sure Sure before (stored before l) l (bytes_of log.work))
    (λ i. record { slot = same i; device = device i; count = many i; work = log.work; out = out i })
    (done_stored log (record { session = 0; until = 0; runs = (writes log log.work).1 }) some refl Sure Sure before 0 (λ d s content free was. was) (record { each = sure }))

module _ {G O S T : Type 0} (g : register.Ghosts G) (o : owners.Ghosts O) (st : store.Ghosts S) (Stands : Truth → Hints → T → Type 0) (Step : T → Deed → T → Type 0)
    (register_is : G) (owners_are : O) (old : S) (x : Disks) (letters : List Letter) (clocks : Clocks) (machines : List MachineView) (c : Course) (tree : T)
    (node session : ℕ) (row : SessionRow) (before : MachineView)
    (stands : NodesStand g o st Stands Step register_is owners_are old x letters clocks machines c tree)
    (live : IsLive (o.own owners_are) clocks (last c.register.chain) machines node session row before)
    (none_out : st.out_of old node ≡ None)
    (none_sent : (other : Sent) → Contains c.store.writes other → other.session ≢ session) where
  abbrev known : Known
  known = known_of g o st Stands Step register_is owners_are old x letters clocks machines

  abbrev Sure : ℕ → ℕ → List ℕ → Type 0
  Sure = SureOf g o st Stands Step register_is owners_are old x known c

  abbrev Before : Scene
  Before = scene_of g o st Stands Step register_is owners_are old x clocks.down machines c

  pub its : IsAbout (st.made old).devices (st.made old).areas Sure (st.will_read old x c.store node) Before node session row.slot before
  its = stands.about.each node session before row live.there live.mark (own_is clocks.down (o.own owners_are) node session live.up live.own) live.is_row live.lives

  pub at_work : (stage : Stage) → before.stage ≡ stage → IsAtWork (st.made old).devices (st.made old).areas Sure Before node session row.slot before stage
  at_work stage is = subst (λ (s : Stage). IsAtWork (st.made old).devices (st.made old).areas Sure Before node session row.slot before s) is its.work

  pub low : row.slot < 8
  low = owning.low (st.made old).devices (st.made old).areas Sure c.before (last c.register.chain) live.allowed c.owners.holding c.logs c.slots c.truth stands.at.logs session row live.is_row live.lives

  pub lives_it : LivesIn (last c.register.chain) session
  lives_it = lives_of (last c.register.chain) session row live.is_row live.lives

  -- a write of which none is out is done
  pub landed_of : (runs : List Run) → IsWriting Sure session runs (st.out_of old node) c.store.writes → (d s : ℕ) (content : List ℕ) → WritesIn runs d s content → Sure d s content
  landed_of runs (inl flying) = let wrong = sym none_out ∙ flying.is_out in absurd cc
  landed_of runs (inr landed) = landed.sure

  -- The write of its log's work is done: by that work, what the devices hold, and that homes hold what they held.
  module _ (work : Work) (some : work ≢ works.Idle) (is : before.log.work ≡ work) (out : before.log.out ≡ true) (doing : (c.slots row.slot).activity ≡ OfLog before.log.work)
      (writing : IsWriting Sure session (writes before.log before.log.work).1 (st.out_of old node) c.store.writes) where
    abbrev now : Image
    now = stored c.before (view_of (st.made old).devices row.slot (length (c.logs row.slot)) work)

    pub slot_is : c.slots row.slot ≡ record { activity = OfLog work; more = (c.slots row.slot).more }
    slot_is = λ i. record { activity = (doing ∙ ap (λ (w : Work). OfLog w) is) i; more = (c.slots row.slot).more }

    pub ack : IsAcknowledged Sure Sure c.before (stored c.before (view_of (st.made old).devices row.slot (length (c.logs row.slot)) work)) (view_of (st.made old).devices row.slot (length (c.logs row.slot)) work) (bytes_of work)
    ack = subst (λ (w : Work). IsAcknowledged Sure Sure c.before (stored c.before (view_of (st.made old).devices row.slot (length (c.logs row.slot)) w)) (view_of (st.made old).devices row.slot (length (c.logs row.slot)) w) (bytes_of w)) is
        (acknowledged Sure (st.made old).devices before.log row.slot (length (c.logs row.slot)) c.before its.is_slot its.device its.count out (λ e. some (sym is ∙ e)) (landed_of (writes before.log before.log.work).1 writing))

    pub home_same : (block i : ℕ) → stored c.before (view_of (st.made old).devices row.slot (length (c.logs row.slot)) work) (block_place block (st.made old).devices).0 ((block_place block (st.made old).devices).1 + i)
        ≡ c.before (block_place block (st.made old).devices).0 ((block_place block (st.made old).devices).1 + i)
    home_same block i = by (is_written (view_of (st.made old).devices row.slot (length (c.logs row.slot)) work) (block_place block (st.made old).devices).0 ((block_place block (st.made old).devices).1 + i)) refl
      where
        by : (b : Bool) → is_written (view_of (st.made old).devices row.slot (length (c.logs row.slot)) work) (block_place block (st.made old).devices).0 ((block_place block (st.made old).devices).1 + i) ≡ b
            → stored c.before (view_of (st.made old).devices row.slot (length (c.logs row.slot)) work) (block_place block (st.made old).devices).0 ((block_place block (st.made old).devices).1 + i)
            ≡ c.before (block_place block (st.made old).devices).0 ((block_place block (st.made old).devices).1 + i)
        by true w = absurd (home_in_none block (st.made old).devices row.slot i low
            (writes_within Sure (st.made old).devices (st.made old).areas c.before c.logs c.slots row.slot (block_place block (st.made old).devices).0 ((block_place block (st.made old).devices).1 + i)
            (is_taken (last c.register.chain).sessions row.slot) (stands.at.logs.each row.slot low)
            (ap (λ (l : Slot). writes_in (st.made old).devices row.slot (length (c.logs row.slot)) l.activity (block_place block (st.made old).devices).0 ((block_place block (st.made old).devices).1 + i)) slot_is ∙ w)))
        by false w = ack.same (block_place block (st.made old).devices).0 ((block_place block (st.made old).devices).1 + i) w

    -- no other slot is written
    pub slot_same : (other d s : ℕ) → other ≢ row.slot → other < 8 → IsOfSlot (st.made old).devices other d s → stored c.before (view_of (st.made old).devices row.slot (length (c.logs row.slot)) work) d s ≡ c.before d s
    slot_same other d s ne few inside = by (is_written (view_of (st.made old).devices row.slot (length (c.logs row.slot)) work) d s) refl
      where
        by : (b : Bool) → is_written (view_of (st.made old).devices row.slot (length (c.logs row.slot)) work) d s ≡ b → stored c.before (view_of (st.made old).devices row.slot (length (c.logs row.slot)) work) d s ≡ c.before d s
        by true w =
            let mine = writes_within Sure (st.made old).devices (st.made old).areas c.before c.logs c.slots row.slot d s (is_taken (last c.register.chain).sessions row.slot) (stands.at.logs.each row.slot low)
            (ap (λ (l : Slot). writes_in (st.made old).devices row.slot (length (c.logs row.slot)) l.activity d s) slot_is ∙ w) in
            let a = mine.from in let b = mine.to in let p = inside.from in let q = inside.to in absurd (ne (omega (arith, a, b, p, q)))
        by false w = ack.same d s w

  -- ---- the write of the next work is sent

  abbrev pub Stood : S → List Letter → List MachineView → T → Logs → Type 0
  Stood new then_letters later next logs =
      (course : Course) × (course.register.chain ≡ c.register.chain) × NodesStand g o st Stands Step register_is owners_are new x then_letters clocks later course next × (course.logs ≡ logs) × LeavesWorks (Some session) c course

  abbrev known_then : List MachineView → Known
  known_then later = known_of g o st Stands Step register_is owners_are old x letters clocks later

  module _ (later : List MachineView) (new : S) (then_letters : List Letter) (write : Sent) (sending : IsSending g o st register_is owners_are old new x c then_letters node session write) where
    pub next_sends : (to : Outcome) (next : T) → IsChanged machines later node (machine_then before to) → IsOwn (st.made old).devices (st.made old).areas c row.slot session before.fetch to
        → StandsAt g o st Stands Step register_is owners_are old x (known_of g o st Stands Step register_is owners_are old x letters clocks later) (course_then c row.slot to) next
        → RecoversNone before.stage → RecoversNone to.stage → to.slot.activity ≡ OfLog to.log.work → write.runs ≡ (writes to.log to.log.work).1
        → (IsFlying session (writes to.log to.log.work).1 (st.out_of new node) (write ∷ c.store.writes)
        → IsAtWork (st.made old).devices (st.made old).areas (SureBehind o st owners_are (st.made old) new x clocks c then_letters write)
        (scene_of g o st Stands Step register_is owners_are new x clocks.down later (with_write (course_then c row.slot to) then_letters write)) node session row.slot (machine_then before to) to.stage)
        → Stood new then_letters later next to.logs
    next_sends to next changed own at resting rests_then doing runs work = (
      with_write (course_then c row.slot to) then_letters write,
      refl,
      acting.sends_on g o st Stands Step register_is owners_are old x letters clocks machines later c tree next node session row before to stands live changed own at resting rests_then new then_letters write sending
          (working.touches g o st Stands Step register_is owners_are old x (known_then later) (course_then c row.slot to) next session row to.log write at live.allowed live.is_row live.lives own.is_slot own.device own.count here runs c.logs c.slots)
          (λ handed. working.of_work g o st Stands Step register_is owners_are old x (known_then later) (course_then c row.slot to) next session row to.log write at live.allowed live.is_row live.lives own.is_slot own.device own.count here runs new then_letters node handed)
          none_out none_sent (λ flying. work (flying (writes to.log to.log.work).1 runs)),
      refl,
      record { slots = left.slots; doubts = left.doubts },
    )
      where
        here : (with_slot c.slots row.slot to.slot row.slot).activity ≡ OfLog to.log.work
        here = ap (λ (l : Slot). l.activity) (slot_here c.slots row.slot to.slot) ∙ doing

        left : LeavesWorks (Some session) c (course_then c row.slot to)
        left = acting.leaves_works g o st Stands Step register_is owners_are old x letters clocks machines later c tree next node session row before to stands live changed own

    -- ---- a body

    module _ (call : Option Replying) (draft : List Changed) (text : List ℕ) (point : Point) (stage : before.stage ≡ words.Records call draft) (is : before.log.work ≡ works.Body text point) where
      abbrev body_to : Outcome
      body_to = record {
        held = before.held;
        away = before.away;
        log = record before.log { work = works.Opens point; out = true };
        stage = words.Records call draft;
        before = stored c.before (view_of (st.made old).devices row.slot (length (c.logs row.slot)) (works.Body text point));
        logs = c.logs;
        slot = record { activity = OfLog (works.Opens point); more = (c.slots row.slot).more };
        truth = c.truth;
        doubts = c.doubts;
      }

      -- The body of a record is acknowledged, and its gate is sent.
      pub body_lands : IsChanged machines later node (record before { log = record before.log { work = works.Opens point; out = true }; stage = words.Records call draft })
          → write.runs ≡ (writes before.log (works.Opens point)).1 → Stood new then_letters later tree c.logs
      body_lands changed runs = next_sends body_to tree changed own
          (acting.shown_still g o st Stands Step register_is owners_are old x letters clocks machines later c tree tree node session row before body_to stands live changed own (course_then c row.slot body_to) tree (λ block mode. refl)
          (body_at g o st Stands Step register_is owners_are old x known c tree session row stands.at live.allowed lives_it live.is_row none_sent (c.slots row.slot).more point text body_to.before was acked))
          (subst (λ (s : Stage). RecoversNone s) (sym stage) tt) tt refl runs
          (λ flying. (tt, refl, ap (λ (l : Slot). l.activity) (slot_here c.slots row.slot body_to.slot), inl flying, doubts, work.5))
        where
          work : IsAtWork (st.made old).devices (st.made old).areas Sure Before node session row.slot before (words.Records call draft)
          work = at_work (words.Records call draft) stage

          doubts : IsSomeAnd (c.doubts session) (IsDoubtOf call draft point)
          doubts = subst (λ (w : Work). IsSomeAnd (c.doubts session) (IsDoubtIn w call draft)) is work.4

          was : c.slots row.slot ≡ record { activity = OfLog (works.Body text point); more = (c.slots row.slot).more }
          was = slot_is (works.Body text point) (λ e. cc) is work.1 work.2 work.3

          acked : IsAcknowledged Sure Sure c.before body_to.before (view_of (st.made old).devices row.slot (length (c.logs row.slot)) (works.Body text point)) text
          acked = ack (works.Body text point) (λ e. cc) is work.1 work.2 work.3

          began : begins (c.slots row.slot).activity ≡ true
          began = ap (λ (l : Slot). begins l.activity) was

          own : IsOwn (st.made old).devices (st.made old).areas c row.slot session before.fetch body_to
          own = record {
            is_slot = its.is_slot;
            device = its.device;
            count = its.count;
            logs = λ other ne. refl;
            doubts = λ other ne. refl;
            homes = λ block i is_block unlogged few. home_same (works.Body text point) (λ e. cc) is work.1 work.2 work.3 block i;
            unlogged = λ block unlogged unwritten. unlogged row.slot low;
            unread = λ block mode fetched unwritten begun. unwritten row.slot low began;
            unread_by = λ other block mode ne other_lives allows unwritten begun. unwritten row.slot low began;
            unseen = its.unseen;
            elsewhere = slot_same (works.Body text point) (λ e. cc) is work.1 work.2 work.3;
          }

    -- ---- gate 0

    module _ (stage : before.stage ≡ words.Closes) (is : before.log.work ≡ works.Closes) where
      abbrev first_to : Outcome
      first_to = record {
        held = before.held;
        away = before.away;
        log = record before.log { count = 0; work = works.Shuts; out = true };
        stage = words.Closes;
        before = stored c.before (view_of (st.made old).devices row.slot (length (c.logs row.slot)) works.Closes);
        logs = with_log c.logs row.slot [];
        slot = record { activity = OfLog works.Shuts; more = (c.slots row.slot).more };
        truth = c.truth;
        doubts = c.doubts;
      }

      -- Gate 0, closed, is acknowledged, and the other gates are sent.
      pub first_lands : IsChanged machines later node (record before { log = record before.log { count = 0; work = works.Shuts; out = true }; stage = words.Closes })
          → write.runs ≡ (writes before.log works.Shuts).1 → Stood new then_letters later tree (with_log c.logs row.slot [])
      first_lands changed runs = next_sends first_to tree changed own
          (acting.shown_still g o st Stands Step register_is owners_are old x letters clocks machines later c tree tree node session row before first_to stands live changed own (course_then c row.slot first_to) tree (λ block mode. refl)
          (first_at g o st Stands Step register_is owners_are old x known c tree session row stands.at live.allowed lives_it live.is_row none_sent (c.slots row.slot).more (c.slots row.slot).more first_to.before
          (slot_is works.Closes (λ e. cc) is work.1 work.2 work.3) (ack works.Closes (λ e. cc) is work.1 work.2 work.3)))
          (subst (λ (s : Stage). RecoversNone s) (sym stage) tt) tt refl runs
          (λ flying. (tt, refl, ap (λ (l : Slot). l.activity) (slot_here c.slots row.slot first_to.slot), inl flying, work.4, work.5))
        where
          work : IsAtWork (st.made old).devices (st.made old).areas Sure Before node session row.slot before words.Closes
          work = at_work words.Closes stage

          here : with_log c.logs row.slot [] row.slot ≡ []
          here = log_here c.logs row.slot []

          none_begins : begins (OfLog works.Shuts) ≡ true → ⊥
          none_begins e = cc

          own : IsOwn (st.made old).devices (st.made old).areas c row.slot session before.fetch first_to
          own = record {
            is_slot = its.is_slot;
            device = its.device;
            count = sym (ap (λ (l : List Logged). length l) here);
            logs = λ other ne. log_there c.logs row.slot other [] ne;
            doubts = λ other ne. refl;
            homes = λ block i is_block unlogged few. home_same works.Closes (λ e. cc) is work.1 work.2 work.3 block i;
            unlogged = λ block unlogged unwritten. ap (λ (l : List Logged). newest_in l block) here;
            unread = λ block mode fetched unwritten begun. absurd (none_begins begun);
            unread_by = λ other block mode ne other_lives allows unwritten begun. absurd (none_begins begun);
            unseen = its.unseen;
            elsewhere = slot_same works.Closes (λ e. cc) is work.1 work.2 work.3;
          }

  -- ---- the other gates

  module _ (later : List MachineView) (stage : before.stage ≡ words.Closes) (is : before.log.work ≡ works.Shuts)
      (changed : IsChanged machines later node (record before { log = record before.log { work = works.Idle; out = false }; stage = words.Idle })) where
    abbrev others_to : Outcome
    others_to = record {
      held = before.held;
      away = before.away;
      log = record before.log { work = works.Idle; out = false };
      stage = words.Idle;
      before = stored c.before (view_of (st.made old).devices row.slot (length (c.logs row.slot)) works.Shuts);
      logs = c.logs;
      slot = record { activity = idle; more = (c.slots row.slot).more };
      truth = c.truth;
      doubts = c.doubts;
    }

    -- The other gates, closed, are acknowledged: the log rests, and nothing is sent.
    pub others_land : Stood old letters later tree c.logs
    others_land = (
      course_then c row.slot others_to,
      refl,
      acting.rests_on g o st Stands Step register_is owners_are old x letters clocks machines later c tree tree node session row before others_to stands live changed own
          (acting.shown_still g o st Stands Step register_is owners_are old x letters clocks machines later c tree tree node session row before others_to stands live changed own (course_then c row.slot others_to) tree (λ block mode. refl)
          (others_at g o st Stands Step register_is owners_are old x known c tree session row stands.at live.allowed lives_it live.is_row none_sent (c.slots row.slot).more (c.slots row.slot).more others_to.before was
          (ack works.Shuts (λ e. cc) is work.1 work.2 work.3)))
          (subst (λ (s : Stage). RecoversNone s) (sym stage) tt) tt
          (refl, ap (λ (l : Slot). l.activity) (slot_here c.slots row.slot others_to.slot), none, none_out, work.4, λ block. work.5 block ∙ sym (ap (λ (l : List Logged). newest_in l block) none)),
      refl,
      acting.leaves_works g o st Stands Step register_is owners_are old x letters clocks machines later c tree tree node session row before others_to stands live changed own,
    )
      where
        work : IsAtWork (st.made old).devices (st.made old).areas Sure Before node session row.slot before words.Closes
        work = at_work words.Closes stage

        was : c.slots row.slot ≡ record { activity = OfLog works.Shuts; more = (c.slots row.slot).more }
        was = slot_is works.Shuts (λ e. cc) is work.1 work.2 work.3

        of_log : IsLogOf Sure (st.made old).devices (st.made old).areas c.before c.logs row.slot (record { activity = OfLog works.Shuts; more = (c.slots row.slot).more })
        of_log = subst (λ (l : Slot). IsLogOf Sure (st.made old).devices (st.made old).areas c.before c.logs row.slot l) was
            (subst (λ (t : Bool). SlotStands Sure (st.made old).devices (st.made old).areas c.before t c.logs row.slot (c.slots row.slot)) (taken_of (last c.register.chain) session row live.is_row) (stands.at.logs.each row.slot low))

        no_records : (l : List Logged) → length l ≡ 0 → l ≡ []
        no_records [] e = refl
        no_records (one ∷ more) e = absurd (omega (arith, e))

        none : c.logs row.slot ≡ []
        none = no_records (c.logs row.slot) of_log.finds

        none_begins : begins idle ≡ true → ⊥
        none_begins e = cc

        own : IsOwn (st.made old).devices (st.made old).areas c row.slot session before.fetch others_to
        own = record {
          is_slot = its.is_slot;
          device = its.device;
          count = its.count;
          logs = λ other ne. refl;
          doubts = λ other ne. refl;
          homes = λ block i is_block unlogged few. home_same works.Shuts (λ e. cc) is work.1 work.2 work.3 block i;
          unlogged = λ block unlogged unwritten. unlogged row.slot low;
          unread = λ block mode fetched unwritten begun. absurd (none_begins begun);
          unread_by = λ other block mode ne other_lives allows unwritten begun. absurd (none_begins begun);
          unseen = its.unseen;
          elsewhere = slot_same works.Shuts (λ e. cc) is work.1 work.2 work.3;
        }

-- The gate of a node's record is acknowledged: the record is one of its log, the tree takes its step, and its blocks are sent home. And once they are home.
use Rattle.std.proofs.Common.{◌≡◌, ◌≢◌, ◌⊎◌, ⊎_elim, ◌∙◌, inl, inr, ℕ, ◌+◌, ◌<◌, Bool, true, false, eqb, List, ◌∷◌, length, Contains, Option, None, Some, IsSome, IsSomeAnd, refl, sym, ap, subst, arith}
use Rattle.std.proofs.lemmas.Bool.Decides.{nat_tests}
use Rattle.std.specs.Prelude.{if◌then◌else◌, slice_get}
use Rattle.bx_base.specs.declared.names.Mode.{Mode}
use Rattle.bx_base.specs.declared.names.Point.{Point}
use Rattle.bx_disk.specs.Disks.{Disks}
use Rattle.bx_facts.specs.declared.register.Register as register
use Rattle.bx_facts.specs.declared.store.Store as store
use Rattle.bx_facts.specs.Chains.{last}
use Rattle.bx_facts.specs.Writes.{Sent, WritesIn}
use Rattle.bx_facts.proofs.Lists.{front_or_behind}
use Rattle.bx_node_events.specs.Works.{LeavesWorks}
use Rattle.bx_node_events.proofs.Acting as acting
use Rattle.bx_node_events.proofs.Acting.{IsChanged, IsLive, IsOwn, Outcome, course_then, machine_then}
use Rattle.bx_node_events.proofs.Homing as homing
use Rattle.bx_node_events.proofs.Homing.{of_homes}
use Rattle.bx_node_events.proofs.Landed as landed
use Rattle.bx_node_events.proofs.Working.{IsSending}
use Rattle.bx_node_landings.proofs.Acked.{acked_at, rest_slot}
use Rattle.bx_node_landings.proofs.Landed.{homes_at}
use Rattle.bx_node_machines.specs.Machines as words
use Rattle.bx_node_machines.specs.Machines.{Fetch, IsAbout, IsAtWork, IsDoubtIn, IsDoubtOf, IsUnseen, MachineView, Replying, Scene, Stage, act_of, is_one, number_of}
use Rattle.bx_node_machines.specs.Recoveries.{RecoversNone}
use Rattle.bx_node_machines.specs.Nodes.{NodesStand, hinted, known_of, nothing_held, scene_of, shown}
use Rattle.bx_node_machines.proofs.Owning as owning
use Rattle.bx_node_sends.proofs.Sent.{with_write}
use Rattle.bx_facts.specs.declared.owners.Owners as owners
use Rattle.bx_places.specs.Places.{IsBlock, block_place}
use Rattle.bx_post.specs.declared.packets.Letter.{Letter}
use Rattle.bx_records.specs.Drafts.{Block, Changed, block_in}
use Rattle.bx_redo.specs.Homes.{AreItsHomes, with_runs}
use Rattle.bx_redo.specs.Stands.{stored}
use Rattle.bx_redo.specs.Steps.{writes}
use Rattle.bx_redo.specs.declared.work.Work.{Work}
use Rattle.bx_redo.specs.declared.work.Work.TheVariants as works
use Rattle.bx_rows.specs.declared.session.SessionRow.{SessionRow}
use Rattle.bx_views.specs.Attempts.{Deed}
use Rattle.bx_views.specs.Truths.{Held, Hints, Truth, with_draft}
use Rattle.bx_volume.specs.Overlay.{Logs, with_log}
use Rattle.bx_volume.specs.Records.{Logged, newest_in, or_older}
use Rattle.bx_volume.proofs.Overlay.{log_here, log_there}
use Rattle.bx_world_logs.specs.Logs.{IsInLog, OfLog, Slot, begins, idle, view_of}
use Rattle.bx_world_logs.proofs.Moving.{slot_here, with_slot}
use Rattle.bx_world_standing.specs.Doubts.{IsRecordOf}
use Rattle.bx_world_standing.specs.Parts.{Clocks}
use Rattle.bx_world_standing.specs.Standing.{Course, Known, StandsAt, SureOf}
use Rattle.bx_world_views.specs.Views.{Act, Unacknowledged, ShowsDraft, StepOf}
use Rattle.bx_world_views.proofs.Doubts.{without_doubt, without_only}

newest_or : (one older : Option Block) → IsSome (or_older one older) → IsSome older ⊎ IsSome one
newest_or None older some = inl some
newest_or (Some block) older some = inr refl

none_or : (one older : Option Block) → one ≡ None → older ≡ None → or_older one older ≡ None
none_or None older is none = none
none_or (Some block) older is none = absurd cc

module _ {G O S T : Type 0} (g : register.Ghosts G) (o : owners.Ghosts O) (st : store.Ghosts S) (Stands : Truth → Hints → T → Type 0) (Step : T → Deed → T → Type 0)
    (register_is : G) (owners_are : O) (old : S) (x : Disks) (letters : List Letter) (clocks : Clocks) (machines later : List MachineView) (c : Course) (tree : T)
    (node session : ℕ) (row : SessionRow) (before : MachineView)
    (stands : NodesStand g o st Stands Step register_is owners_are old x letters clocks machines c tree)
    (live : IsLive (o.own owners_are) clocks (last c.register.chain) machines node session row before)
    (none_out : st.out_of old node ≡ None)
    (none_sent : (other : Sent) → Contains c.store.writes other → other.session ≢ session)
    (new : S) (then_letters : List Letter) (write : Sent) (sending : IsSending g o st register_is owners_are old new x c then_letters node session write) where
  abbrev known : Known
  known = known_of g o st Stands Step register_is owners_are old x letters clocks machines

  abbrev then_known : Known
  then_known = known_of g o st Stands Step register_is owners_are old x letters clocks later

  abbrev Sure : ℕ → ℕ → List ℕ → Type 0
  Sure = SureOf g o st Stands Step register_is owners_are old x known c

  its : IsAbout (st.made old).devices (st.made old).areas Sure (st.will_read old x c.store node) (scene_of g o st Stands Step register_is owners_are old x clocks.down machines c) node session row.slot before
  its = landed.its g o st Stands Step register_is owners_are old x letters clocks machines c tree node session row before stands live none_out none_sent

  low : row.slot < 8
  low = landed.low g o st Stands Step register_is owners_are old x letters clocks machines c tree node session row before stands live none_out none_sent

  none_begins : begins idle ≡ true → ⊥
  none_begins e = cc

  -- ---- a gate

  module _ (call : Option Replying) (draft : List Changed) (point : Point) (stage : before.stage ≡ words.Records call draft) (is : before.log.work ≡ works.Opens point)
      (held : Held) (away : ℕ → Option Block) (lays : ShowsDraft draft before.held held) (leaves : (block : ℕ) → away block ≡ or_older (block_in draft block) (before.away block))
      (changed : IsChanged machines later node (record before { held = held; away = away; log = record before.log { count = before.log.count + 1; work = works.Idle; out = false }; stage = words.Homes }))
      (homes : (logs : Logs) (slot : ℕ) → ((at : ℕ) → away at ≡ newest_in (logs slot) at) → AreItsHomes (st.made old).devices (st.made old).areas logs slot write.runs) where
    work : IsAtWork (st.made old).devices (st.made old).areas Sure (scene_of g o st Stands Step register_is owners_are old x clocks.down machines c) node session row.slot before (words.Records call draft)
    work = landed.at_work g o st Stands Step register_is owners_are old x letters clocks machines c tree node session row before stands live none_out none_sent (words.Records call draft) stage

    was : c.slots row.slot ≡ record { activity = OfLog (works.Opens point); more = (c.slots row.slot).more }
    was = landed.slot_is g o st Stands Step register_is owners_are old x letters clocks machines c tree node session row before stands live none_out none_sent (works.Opens point) (λ e. cc) is work.1 work.2 work.3

    began : begins (c.slots row.slot).activity ≡ true
    began = ap (λ (l : Slot). begins l.activity) was

    -- the record in doubt, which is the slot's and the machine's
    has_doubt : (found : Option Unacknowledged) → c.doubts session ≡ found → IsSomeAnd found (IsDoubtOf call draft point) → IsSomeAnd found (IsRecordOf (c.slots row.slot).more)
        → (doubt : Unacknowledged) × (c.doubts session ≡ Some doubt) × IsDoubtOf call draft point doubt × IsRecordOf (c.slots row.slot).more doubt
    has_doubt None is_found one other = absurd one
    has_doubt (Some doubt) is_found one other = (doubt, is_found, one, other)

    doubt : (doubt : Unacknowledged) × (c.doubts session ≡ Some doubt) × IsDoubtOf call draft point doubt × IsRecordOf (c.slots row.slot).more doubt
    doubt = has_doubt (c.doubts session) refl (subst (λ (w : Work). IsSomeAnd (c.doubts session) (IsDoubtIn w call draft)) is work.4) (stands.at.doubted.each session row live.is_row began)

    drafts : draft ≡ (c.slots row.slot).more.changed
    drafts = sym doubt.2.draft_is ∙ sym doubt.3.draft

    abbrev gate_to : Outcome
    gate_to = record {
      held = held;
      away = away;
      log = record before.log { count = before.log.count + 1; work = works.Idle; out = false };
      stage = words.Homes;
      before = stored c.before (view_of (st.made old).devices row.slot (length (c.logs row.slot)) (works.Opens point));
      logs = with_log c.logs row.slot ((c.slots row.slot).more ∷ c.logs row.slot);
      slot = rest_slot (c.slots row.slot).more;
      truth = with_draft c.truth (c.slots row.slot).more.changed;
      doubts = without_doubt c.doubts session;
    }

    here : with_log c.logs row.slot ((c.slots row.slot).more ∷ c.logs row.slot) row.slot ≡ (c.slots row.slot).more ∷ c.logs row.slot
    here = log_here c.logs row.slot ((c.slots row.slot).more ∷ c.logs row.slot)

    -- what isn't home then is what the log has
    away_then : (block : ℕ) → away block ≡ newest_in (with_log c.logs row.slot ((c.slots row.slot).more ∷ c.logs row.slot) row.slot) block
    away_then block = leaves block ∙ ap (λ (d : List Changed). or_older (block_in d block) (before.away block)) drafts ∙ ap (λ (older : Option Block). or_older (block_in (c.slots row.slot).more.changed block) older) (work.5 block)
        ∙ sym (ap (λ (l : List Logged). newest_in l block) here)

    its_homes : AreItsHomes (st.made old).devices (st.made old).areas (with_log c.logs row.slot ((c.slots row.slot).more ∷ c.logs row.slot)) row.slot write.runs
    its_homes = homes (with_log c.logs row.slot ((c.slots row.slot).more ∷ c.logs row.slot)) row.slot away_then

    unseen : (fetch : Fetch) → before.fetch ≡ fetch → IsUnseen before.held fetch → IsUnseen held fetch
    unseen words.Nothing is_fetch hidden = tt
    unseen (words.Block block mode) is_fetch hidden = λ way. lays.others block way (ap (λ (d : List Changed). block_in d block) drafts ∙ unwritten) ∙ hidden way
      where
        unwritten : block_in (c.slots row.slot).more.changed block ≡ None
        unwritten = (subst (λ (f : Fetch). words.IsFetching (st.made old).devices (st.made old).areas (st.will_read old x c.store node) (scene_of g o st Stands Step register_is owners_are old x clocks.down machines c) node session f) is_fetch its.fetch).unwritten
            row.slot low began
    unseen words.Dropped is_fetch hidden = tt
    unseen words.OfLog is_fetch hidden = tt

    own : IsOwn (st.made old).devices (st.made old).areas c row.slot session before.fetch gate_to
    own = record {
      is_slot = its.is_slot;
      device = its.device;
      count = let e = its.count in let f = ap (λ (l : List Logged). length l) here in omega (arith, e, f);
      logs = λ other ne. log_there c.logs row.slot other ((c.slots row.slot).more ∷ c.logs row.slot) ne;
      doubts = λ other ne. (without_only c.doubts session).others other ne;
      homes = λ block i is_block unlogged few. landed.home_same g o st Stands Step register_is owners_are old x letters clocks machines c tree node session row before stands live none_out none_sent (works.Opens point) (λ e. cc) is work.1 work.2 work.3 block i;
      unlogged = λ block unlogged unwritten. ap (λ (l : List Logged). newest_in l block) here
          ∙ none_or (block_in (c.slots row.slot).more.changed block) (newest_in (c.logs row.slot) block) (unwritten row.slot low began) (unlogged row.slot low);
      unread = λ block mode fetched unwritten begun. absurd (none_begins begun);
      unread_by = λ other block mode ne other_lives allows unwritten begun. absurd (none_begins begun);
      unseen = unseen before.fetch refl its.unseen;
      elsewhere = landed.slot_same g o st Stands Step register_is owners_are old x letters clocks machines c tree node session row before stands live none_out none_sent (works.Opens point) (λ e. cc) is work.1 work.2 work.3;
    }

    -- what the nodes show
    shows_before : shown (slice_get machines node) (o.own owners_are node) ≡ before.held
    shows_before = shows (slice_get machines node) before live.there live.mark
      where
        shows : (found : Option MachineView) (machine : MachineView) → found ≡ Some machine → machine.session ≡ Some session → shown found (o.own owners_are node) ≡ machine.held
        shows found machine there mark = ap (λ (m : Option MachineView). shown m (o.own owners_are node)) there
            ∙ ap (λ (own_is_it : Option ℕ). if is_one machine.session own_is_it then machine.held else nothing_held) live.own
            ∙ ap (λ (mark_is : Option ℕ). if is_one mark_is (Some session) then machine.held else nothing_held) mark
            ∙ (let t : is_one (Some session) (Some session) ≡ true = grind (arith, nat_tests) in ap (λ (b : Bool). if b then machine.held else nothing_held) t)

    shows_then : shown (slice_get later node) (o.own owners_are node) ≡ held
    shows_then = ap (λ (m : Option MachineView). shown m (o.own owners_are node)) changed.here
        ∙ ap (λ (own_is_it : Option ℕ). if is_one before.session own_is_it then held else nothing_held) live.own
        ∙ ap (λ (mark_is : Option ℕ). if is_one mark_is (Some session) then held else nothing_held) live.mark
        ∙ (let t : is_one (Some session) (Some session) ≡ true = grind (arith, nat_tests) in ap (λ (b : Bool). if b then held else nothing_held) t)

    hints_same : (n : ℕ) (b : Bool) → eqb n node ≡ b → hinted (slice_get machines n) ≡ hinted (slice_get later n)
    hints_same n true same =
        let e : n ≡ node = grind (arith, nat_tests, same) in
        ap hinted (ap (λ (k : ℕ). slice_get machines k) e ∙ live.there) ∙ sym (ap hinted (ap (λ (k : ℕ). slice_get later k) e ∙ changed.here))
    hints_same n false differ = ap hinted (sym (changed.others n (λ e. grind (arith, nat_tests, differ, e))))

    acked : (next : T) × StepOf Stands Step doubt.0.act tree next
        × StandsAt g o st Stands Step register_is owners_are old x (record known { held = λ n. shown (slice_get later n) (o.own owners_are n) }) (course_then c row.slot gate_to) next
    acked = acked_at g o st Stands Step register_is owners_are old x known c tree node session row (c.slots row.slot).more (c.slots row.slot).more point doubt.0 gate_to.before (λ n. shown (slice_get later n) (o.own owners_are n)) stands.at
        live.up live.own (landed.lives_it g o st Stands Step register_is owners_are old x letters clocks machines c tree node session row before stands live none_out none_sent) live.is_row live.allowed was doubt.1
        (landed.ack g o st Stands Step register_is owners_are old x letters clocks machines c tree node session row before stands live none_out none_sent (works.Opens point) (λ e. cc) is work.1 work.2 work.3)
        (λ other ne. ap (λ (m : Option MachineView). shown m (o.own owners_are other)) (changed.others other ne))
        (subst (λ (d : List Changed). ShowsDraft d (shown (slice_get machines node) (o.own owners_are node)) (shown (slice_get later node) (o.own owners_are node))) (sym doubt.2.draft_is)
        (subst (λ (h : Held). ShowsDraft draft h (shown (slice_get later node) (o.own owners_are node))) (sym shows_before)
        (subst (λ (h : Held). ShowsDraft draft before.held h) (sym shows_then) lays)))

    at_then : StandsAt g o st Stands Step register_is owners_are old x then_known (course_then c row.slot gate_to) acked.0
    at_then = subst (λ (k : Known). StandsAt g o st Stands Step register_is owners_are old x k (course_then c row.slot gate_to) acked.0)
        (λ i. record { letters = letters; clocks = clocks; held = λ n. shown (slice_get later n) (o.own owners_are n); hints = λ n. hints_same n (eqb n node) refl i }) acked.2

    rests : (with_slot c.slots row.slot gate_to.slot row.slot).activity ≡ idle
    rests = ap (λ (l : Slot). l.activity) (slot_here c.slots row.slot gate_to.slot)

    in_log : (at : ℕ) → IsSome (newest_in (with_log c.logs row.slot ((c.slots row.slot).more ∷ c.logs row.slot) row.slot) at) → IsInLog c.logs c.slots row.slot at
    in_log at some = ⊎_elim (λ older. inl older) (λ newest. inr (began, newest))
        (newest_or (block_in (c.slots row.slot).more.changed at) (newest_in (c.logs row.slot) at) (subst (λ (l : List Logged). IsSome (newest_in l at)) here some))

    -- the logs have the record besides, which is of the call
    logged : (slot : ℕ) (one : Logged) → Contains (with_log c.logs row.slot ((c.slots row.slot).more ∷ c.logs row.slot) slot) one → Contains (c.logs slot) one ⊎ ((one.head.call ≡ number_of call) × (point.call ≡ number_of call))
    logged slot one has = by (eqb slot row.slot) refl
      where
        in_front : Contains ((c.slots row.slot).more ∷ c.logs row.slot) one → Contains (c.logs row.slot) one ⊎ ((one.head.call ≡ number_of call) × (point.call ≡ number_of call))
        in_front in_it = ⊎_elim
            (λ same. inr (ap (λ (l : Logged). l.head.call) (sym same) ∙ doubt.3.call ∙ doubt.2.call_is, doubt.2.numbered))
            inl
            (front_or_behind (c.slots row.slot).more (c.logs row.slot) one in_it)

        by : (b : Bool) → eqb slot row.slot ≡ b → Contains (c.logs slot) one ⊎ ((one.head.call ≡ number_of call) × (point.call ≡ number_of call))
        by true same =
            let e : slot ≡ row.slot = grind (arith, nat_tests, same) in
            subst (λ (n : ℕ). Contains (c.logs n) one ⊎ ((one.head.call ≡ number_of call) × (point.call ≡ number_of call))) (sym e)
            (in_front (subst (λ (l : List Logged). Contains l one) here (subst (λ (n : ℕ). Contains (with_log c.logs row.slot ((c.slots row.slot).more ∷ c.logs row.slot) n) one) e has)))
        by false differ =
            let ne : slot ≢ row.slot = grind (arith, nat_tests, differ) in
            inl (subst (λ (l : List Logged). Contains l one) (log_there c.logs row.slot slot ((c.slots row.slot).more ∷ c.logs row.slot) ne) has)

    -- Its gate is acknowledged: the tree takes the record's step, and the homes of its blocks are sent.
    pub gate_lands : (next : T) × StepOf Stands Step (act_of call point) tree next
        × ((course : Course) × (course.register.chain ≡ c.register.chain) × NodesStand g o st Stands Step register_is owners_are new x then_letters clocks later course next
        × ((slot : ℕ) (one : Logged) → Contains (course.logs slot) one → Contains (c.logs slot) one ⊎ ((one.head.call ≡ number_of call) × (point.call ≡ number_of call)))
        × LeavesWorks (Some session) c course)
    gate_lands = (
      acked.0,
      subst (λ (act : Act). StepOf Stands Step act tree acked.0) doubt.2.act_is acked.1,
      (
        with_write (course_then c row.slot gate_to) then_letters write,
        refl,
        acting.sends_on g o st Stands Step register_is owners_are old x letters clocks machines later c tree acked.0 node session row before gate_to stands live changed own at_then (subst (λ (s : words.Stage). RecoversNone s) (sym stage) tt) tt new then_letters write sending
            (λ d s content w. owning.touches_homes (st.made old).devices (st.made old).areas Sure c.before (last c.register.chain) live.allowed c.owners.holding c.logs c.slots c.truth stands.at.logs session row live.is_row live.lives
            gate_to.logs in_log write.runs its_homes d s content w)
            (λ handed. of_homes g o st Stands Step register_is owners_are old new x then_known (course_then c row.slot gate_to) acked.0 then_letters node session row write at_then live.allowed live.is_row live.lives rests its_homes handed)
            none_out none_sent
            (λ flying. (
              refl,
              rests,
              subst (λ (l : List Logged). 0 < length l) (sym here) (omega arith),
              (write.runs, its_homes, inl (flying write.runs refl)),
              (without_only c.doubts session).here,
              away_then,
            )),
        logged,
        record { slots = left.slots; doubts = left.doubts },
      ),
    )
      where
        left : LeavesWorks (Some session) c (course_then c row.slot gate_to)
        left = acting.leaves_works g o st Stands Step register_is owners_are old x letters clocks machines later c tree acked.0 node session row before gate_to stands live changed own

  -- ---- homes

  module _ (stage : before.stage ≡ words.Homes) (held : Held) (away : ℕ → Option Block) (same : (block : ℕ) (mode : Mode) → held block mode ≡ before.held block mode) (none_away : (block : ℕ) → away block ≡ None)
      (changed : IsChanged machines later node (record before { held = held; away = away; log = record before.log { work = works.Closes; out = true }; stage = words.Closes })) where
    at_home : IsAtWork (st.made old).devices (st.made old).areas Sure (scene_of g o st Stands Step register_is owners_are old x clocks.down machines c) node session row.slot before words.Homes
    at_home = landed.at_work g o st Stands Step register_is owners_are old x letters clocks machines c tree node session row before stands live none_out none_sent words.Homes stage

    is_sure : (d s : ℕ) (content : List ℕ) → WritesIn at_home.3.0 d s content → Sure d s content
    is_sure = landed.landed_of g o st Stands Step register_is owners_are old x letters clocks machines c tree node session row before stands live none_out none_sent at_home.3.0 at_home.3.2

    abbrev home_to : Outcome
    home_to = record {
      held = held;
      away = away;
      log = record before.log { work = works.Closes; out = true };
      stage = words.Closes;
      before = with_runs c.before at_home.3.0;
      logs = c.logs;
      slot = record { activity = OfLog works.Closes; more = (c.slots row.slot).more };
      truth = c.truth;
      doubts = c.doubts;
    }

    none_closing : begins (OfLog works.Closes) ≡ true → ⊥
    none_closing e = cc

    still_unseen : (fetch : Fetch) → IsUnseen before.held fetch → IsUnseen held fetch
    still_unseen words.Nothing hidden = tt
    still_unseen (words.Block block mode) hidden = λ way. same block way ∙ hidden way
    still_unseen words.Dropped hidden = tt
    still_unseen words.OfLog hidden = tt

    home_same : (block i : ℕ) → IsBlock (st.made old).areas block → newest_in (c.logs row.slot) block ≡ None → i < 9
        → with_runs c.before at_home.3.0 (block_place block (st.made old).devices).0 ((block_place block (st.made old).devices).1 + i) ≡ c.before (block_place block (st.made old).devices).0 ((block_place block (st.made old).devices).1 + i)
    home_same = homing.homes_same (st.made old).devices (st.made old).areas stands.at.logs.volume c.logs row.slot low at_home.3.0 at_home.3.1 Sure (last c.register.chain).sessions c.before c.slots c.truth stands.at.logs is_sure

    home_own : IsOwn (st.made old).devices (st.made old).areas c row.slot session before.fetch home_to
    home_own = record {
      is_slot = its.is_slot;
      device = its.device;
      count = its.count;
      logs = λ other ne. refl;
      doubts = λ other ne. refl;
      homes = λ block i is_block unlogged few. home_same block i is_block (unlogged row.slot low) few;
      unlogged = λ block unlogged unwritten. unlogged row.slot low;
      unread = λ block mode fetched unwritten begun. absurd (none_closing begun);
      unread_by = λ other block mode ne other_lives allows unwritten begun. absurd (none_closing begun);
      unseen = still_unseen before.fetch its.unseen;
      elsewhere = λ other d s ne few inside. homing.slots_same (st.made old).devices (st.made old).areas stands.at.logs.volume c.logs row.slot low at_home.3.0 at_home.3.1 Sure (last c.register.chain).sessions c.before c.slots c.truth stands.at.logs is_sure other d s few
          (record { from = inside.from; to = inside.to });
    }

    -- Its blocks are home, and gate 0 is sent, closed.
    pub homes_land : write.runs ≡ (writes before.log works.Closes).1
        → (course : Course) × (course.register.chain ≡ c.register.chain) × NodesStand g o st Stands Step register_is owners_are new x then_letters clocks later course tree × (course.logs ≡ c.logs) × LeavesWorks (Some session) c course
    homes_land runs = landed.next_sends g o st Stands Step register_is owners_are old x letters clocks machines c tree node session row before stands live none_out none_sent later new then_letters write sending home_to tree changed home_own
        (acting.shown_still g o st Stands Step register_is owners_are old x letters clocks machines later c tree tree node session row before home_to stands live changed home_own (course_then c row.slot home_to) tree same
        (homes_at g o st Stands Step register_is owners_are old x known c tree session row stands.at live.allowed
        (landed.lives_it g o st Stands Step register_is owners_are old x letters clocks machines c tree node session row before stands live none_out none_sent) live.is_row
        none_sent
        (c.slots row.slot).more home_to.before at_home.1 at_home.2
        (λ other d n few inside. homing.slots_same (st.made old).devices (st.made old).areas stands.at.logs.volume c.logs row.slot low at_home.3.0 at_home.3.1 Sure (last c.register.chain).sessions c.before c.slots c.truth stands.at.logs is_sure other d n few inside)
        home_same
        (homing.truth_then (st.made old).devices (st.made old).areas stands.at.logs.volume c.logs row.slot low at_home.3.0 at_home.3.1 Sure (last c.register.chain).sessions c.before c.slots c.truth stands.at.logs is_sure)
        (homing.are_homed (st.made old).devices (st.made old).areas stands.at.logs.volume c.logs row.slot low at_home.3.0 at_home.3.1 Sure (last c.register.chain).sessions c.before c.slots c.truth stands.at.logs is_sure)))
        (subst (λ (s : words.Stage). RecoversNone s) (sym stage) tt) tt refl runs
        (λ flying. (tt, refl, ap (λ (l : Slot). l.activity) (slot_here c.slots row.slot home_to.slot), inl flying, at_home.4, none_away))

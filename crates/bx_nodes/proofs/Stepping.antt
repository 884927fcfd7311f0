-- The log of a node goes on, and what it asks for is sent: the nodes stand, for the tree that the answer leads to.
use Rattle.std.proofs.Common.{◌≡◌, ◌≢◌, ⊎_elim, inl, inr, ◌∙◌, ℕ, ◌+◌, true, false, List, ◌++◌, [], Contains, Option, Some, None, refl, sym, ap, subst}
use Rattle.std.specs.Prelude.{option_map, option_to_list, reverse, slice_get, slice_set}
use Rattle.std.proofs.lemmas.Option.{slice_get-map}
use Rattle.bx_base.specs.declared.names.Actor.TheVariants.{Node}
use Rattle.bx_base.specs.declared.names.Mode.{Mode}
use Rattle.bx_base.specs.declared.names.Point.{Point}
use Rattle.bx_disk.specs.Disks.{Disks}
use Rattle.bx_facts.specs.declared.register.Register as register
use Rattle.bx_facts.specs.declared.store.Store as store
use Rattle.bx_facts.specs.Chains.{LivesIn, last}
use Rattle.bx_facts.specs.Writes.{Made, Sent, without_session}
use Rattle.bx_layout.specs.declared.block.Block.{Block}
use Rattle.bx_node_cache.specs.Kept.{AreHomesOf, Commits, Settles, away_in, away_of, changed_at, held_in, hint_in, home_runs, kept_in, settled, shown_of}
use Rattle.bx_node_cache.specs.declared.cache.Kept.{Kept}
use Rattle.bx_node_events.proofs.Acting.{IsChanged, IsLive}
use Rattle.bx_node_events.proofs.Gated.{gate_lands, homes_land}
use Rattle.bx_node_events.proofs.Handing as handing
use Rattle.bx_node_events.proofs.Handing.{IsTaken, OwnersLaws, RegisterLaws, StoreLaws}
use Rattle.bx_node_events.proofs.Landed.{body_lands, first_lands, others_land}
use Rattle.bx_node_events.proofs.Leased.{leased_at, leased_course}
use Rattle.bx_node_events.proofs.Working.{IsSending}
use Rattle.bx_node_events.proofs.Works.{keeps_all, leaves_kept}
use Rattle.bx_node_machines.specs.Machines as words
use Rattle.bx_node_machines.specs.Machines.{MachineView, Replying, act_of}
use Rattle.bx_node_machines.specs.Nodes.{NodesStand}
use Rattle.bx_node_tries.specs.Tries.{LeadsBack}
use Rattle.bx_node_tries.specs.declared.round.Said.{Said}
use Rattle.bx_node_tries.specs.declared.round.Waiting.{Waiting}
use Rattle.bx_node_steps.specs.Logging.{Closed, LogGoes, Rests, SendsClosing, SendsGate, SendsHomes, SendsShut, said_of}
use Rattle.bx_node_steps.specs.Seen.{replying, seen, stage_of, view_of}
use Rattle.bx_nodes.specs.Turns.{Turned}
use Rattle.bx_node_steps.specs.declared.machine.Machine.{Machine}
use Rattle.bx_nodes.proofs.Machines.{seen_same, seen_there, set_here, set_there}
use Rattle.bx_nodes.proofs.Told.{emptied, told_as, told_with}
use Rattle.bx_facts.specs.declared.owners.Owners as owners
use Rattle.bx_post.specs.declared.packets.Letter.{Letter}
use Rattle.bx_records.specs.Drafts.{Changed, block_in}
use Rattle.bx_records.specs.Runs.{KindAndRuns}
use Rattle.bx_records.specs.declared.runs.Run.{Run}
use Rattle.bx_redo.specs.Homes.{AreItsHomes}
use Rattle.bx_redo.specs.Steps.{writes}
use Rattle.bx_redo.specs.declared.work.Work.TheVariants as works
use Rattle.bx_rows.specs.declared.session.SessionRow.{SessionRow}
use Rattle.bx_views.specs.Attempts.{Deed}
use Rattle.bx_views.specs.Truths.{Hints, Truth}
use Rattle.bx_volume.specs.Overlay.{Logs, with_log}
use Rattle.bx_volume.specs.Records.{newest_in, or_older}
use Rattle.bx_world_chains.proofs.Rows.{lives_row}
use Rattle.bx_world_standing.specs.Parts.{Clocks}
use Rattle.bx_world_standing.specs.Standing.{Course}
use Rattle.bx_node_events.specs.bx_world_stays.proofs.Drops.{dropped_course}
use Rattle.bx_world_views.specs.Views.{ShowsDraft, StepOf}

-- ---- what a cache shows

-- once a draft is committed, and once all is home
lays_over : (draft : List Changed) (old new : List (ℕ × Kept)) → Commits draft old new → ShowsDraft draft (held_in old) (held_in new)
lays_over draft old new commits = record {
  has = λ at block mode is. ap (λ (k : Option Kept). shown_of k mode) (commits.each at) ∙ ap (λ (b : Option Block). shown_of (changed_at b (kept_in old at)) mode) is;
  others = λ at mode none. ap (λ (k : Option Kept). shown_of k mode) (commits.each at) ∙ ap (λ (b : Option Block). shown_of (changed_at b (kept_in old at)) mode) none;
}

leaves_away : (draft : List Changed) (old new : List (ℕ × Kept)) → Commits draft old new → (at : ℕ) → away_in new at ≡ or_older (block_in draft at) (away_in old at)
leaves_away draft old new commits at = ap away_of (commits.each at) ∙ by (block_in draft at)
  where
    by : (found : Option Block) → away_of (changed_at found (kept_in old at)) ≡ or_older found (away_in old at)
    by None = refl
    by (Some block) = refl

shows_settled : (old new : List (ℕ × Kept)) → Settles old new → (at : ℕ) (mode : Mode) → held_in new at mode ≡ held_in old at mode
shows_settled old new settles at mode = ap (λ (k : Option Kept). shown_of k mode) (settles.each at) ∙ by (kept_in old at)
  where
    by : (found : Option Kept) → shown_of (option_map settled found) mode ≡ shown_of found mode
    by None = refl
    by (Some one) = refl

none_away : (old new : List (ℕ × Kept)) → Settles old new → (at : ℕ) → away_in new at ≡ None
none_away old new settles at = ap away_of (settles.each at) ∙ by (kept_in old at)
  where
    by : (found : Option Kept) → away_of (option_map settled found) ≡ None
    by None = refl
    by (Some one) = refl

-- homes of what isn't home are those of a log that has it
its_homes : (made : Made) (devices areas : ℕ) (away : ℕ → Option Block) (runs : List Run) → devices ≡ made.devices → areas ≡ made.areas → AreHomesOf devices areas away runs
    → (logs : Logs) (slot : ℕ) → ((at : ℕ) → away at ≡ newest_in (logs slot) at) → AreItsHomes made.devices made.areas logs slot runs
its_homes made devices areas away runs same_devices same_areas homes logs slot same =
    subst (λ (d : ℕ). AreItsHomes d made.areas logs slot runs) same_devices (subst (λ (a : ℕ). AreItsHomes devices a logs slot runs) same_areas (record {
      each = λ run has. let h = homes.each run has in record { at = h.at; is = h.is; block = h.block; parts = h.parts; newest = sym (same h.at) ∙ h.is_away; run_is = h.run_is };
      all = λ at block is newest. homes.all at block (same at ∙ newest);
    }))

-- ---- the nodes

module _ {G O S T : Type 0} (g : register.Ghosts G) (o : owners.Ghosts O) (st : store.Ghosts S) (Stands : Truth → Hints → T → Type 0) (Step : T → Deed → T → Type 0)
    (register_is : G) (owners_are : O) (old new : S) (x : Disks) (letters box box_then : List Letter) (clocks : Clocks) (items : List Machine) (c : Course) (tree : T)
    (node session until : ℕ) (before after : Machine)
    (stands : NodesStand g o st Stands Step register_is owners_are old x (letters ++ box) clocks (seen items) c tree)
    (up : clocks.down (Node node) ≡ false) (own : o.own owners_are node ≡ Some session) (ends : o.end_of owners_are node ≡ Some until) (lives : LivesIn (last c.register.chain) session)
    (there : slice_get items node ≡ Some before) (mark : before.session ≡ Some session) (none_out : st.out_of old node ≡ None)
    (register_laws : RegisterLaws g register_is) (owners_laws : OwnersLaws o owners_are) (store_laws : StoreLaws st old) where
  abbrev pub row : SessionRow
  row = (lives_row (last c.register.chain) session lives).0

  -- what its session wrote is over
  abbrev pub quiet_course : Course
  quiet_course = dropped_course c (without_session c.store session).writes

  pub quiet : NodesStand g o st Stands Step register_is owners_are old x (letters ++ box) clocks (seen items) (dropped_course c (without_session c.store session).writes) tree
  quiet = handing.quiet g o st Stands Step register_is owners_are old new x letters box box_then clocks (seen items) c tree node session until stands up own ends register_laws owners_laws none_out store_laws

  pub none_sent : (write : Sent) → Contains (without_session c.store session).writes write → write.session ≢ session
  none_sent = handing.quiet_sent g o st Stands Step register_is owners_are old new x letters box box_then clocks (seen items) c tree node session until stands up own ends register_laws owners_laws none_out store_laws

  -- its lease is relied on
  pub leased : NodesStand g o st Stands Step register_is owners_are old x (letters ++ box) clocks (seen items) (leased_course quiet_course session until) tree
  leased = leased_at g o st Stands Step register_is owners_are old x (letters ++ box) clocks (seen items) quiet_course tree session until quiet
      (handing.keeps_leased g o st Stands Step register_is owners_are old new x letters box box_then clocks (seen items) quiet_course tree node session until quiet up own ends register_laws owners_laws)

  pub live : IsLive (o.own owners_are) clocks (last c.register.chain) (seen items) node session row (view_of before)
  live = record {
    up = up;
    own = own;
    allowed = handing.is_allowed g o st Stands Step register_is owners_are old new x letters box box_then clocks (seen items) c tree node session until stands up own ends register_laws owners_laws;
    is_row = (lives_row (last c.register.chain) session lives).1;
    lives = (lives_row (last c.register.chain) session lives).2;
    there = seen_there items node before there;
    mark = mark;
  }

  -- the machine alone is another
  pub changes : (machine : MachineView) → view_of after ≡ machine → IsChanged (seen items) (seen (slice_set items node after)) node machine
  changes machine is = record {
    here = seen_there (slice_set items node after) node after (set_here items node after before there) ∙ ap (λ (m : MachineView). Some m) is;
    others = λ other ne. slice_get-map view_of (slice_set items node after) other ∙ ap (λ (m : Option Machine). option_map view_of m) (set_there items node other after ne) ∙ sym (slice_get-map view_of items other);
  }

  abbrev Then : S → List Letter → Course → T → Type 0
  Then store_is box_is later next = NodesStand g o st Stands Step register_is owners_are store_is x (letters ++ box_is) clocks (seen (slice_set items node after)) later next

  -- what is said is a step of the tree
  leads_to : (call : Option (Waiting × List ℕ)) (point : Point) (next : T) → StepOf Stands Step (act_of (replying call) point) tree next → LeadsBack Step tree (reverse (option_to_list (said_of call point))) next
  leads_to None point next step = step
  leads_to (Some call) point next step = (tree, refl, step)

  -- Nothing is sent.
  pub rested : (runs : Option KindAndRuns) (said : Option Said) → runs ≡ None → LogGoes before after runs said → Turned (Some session) Step (Then old box) c tree (option_to_list said)
  rested runs said none (Rests stage now) = record {
    later = c;
    next = tree;
    leads = refl;
    chain = refl;
    logged = λ slot one has. inl has;
    works = leaves_kept _ c c (keeps_all c);
    stands = subst (λ (machines : List MachineView). NodesStand g o st Stands Step register_is owners_are old x (letters ++ box) clocks machines c tree) (sym (seen_same items node before after there (ap view_of now))) stands;
  }
  rested runs said none (SendsGate pending text point stage work now) = absurd cc
  rested runs said none (SendsHomes pending point stage work now volume commits homes) = absurd cc
  rested runs said none (SendsClosing stage now volume settles) = absurd cc
  rested runs said none (SendsShut stage work now) = absurd cc
  rested runs said none (Closed stage work now) =
      let rests = others_land g o st Stands Step register_is owners_are old x (letters ++ box) clocks (seen items) (leased_course quiet_course session until) tree node session row (view_of before) leased live none_out none_sent (seen (slice_set items node after))
      (ap stage_of stage) work (changes _ (ap view_of now)) in
      record { later = rests.0; next = tree; leads = refl; chain = rests.1; logged = told_as c.logs c.logs rests.0.logs [] rests.3 (λ slot one has. inl has); works = record { slots = rests.4.slots; doubts = rests.4.doubts }; stands = rests.2 }

  -- Runs are sent.
  module _ (runs : KindAndRuns) (taken : IsTaken st old new node box box_then (record { session = session; until = until; runs = runs.1 })) (made_devices : before.cache.devices ≡ (st.made old).devices) (made_areas : before.cache.areas ≡ (st.made old).areas) where
    pub sending : IsSending g o st register_is owners_are old new x (leased_course quiet_course session until) (letters ++ box_then) node session (record { session = session; until = until; runs = runs.1 })
    sending = handing.is_sending g o st Stands Step register_is owners_are old new x letters box box_then clocks (seen items) quiet_course tree node session until quiet up own ends register_laws owners_laws
        (record { session = session; until = until; runs = runs.1 }) refl refl taken

    some_is : (a b : KindAndRuns) → Some a ≡ Some b → a ≡ b
    some_is a b e = cc

    pub went : (all : Option KindAndRuns) (said : Option Said) → all ≡ Some runs → LogGoes before after all said → Turned (Some session) Step (Then new box_then) c tree (option_to_list said)
    went all said are (Rests stage now) = absurd cc
    went all said are (SendsGate pending text point stage work now) =
        let goes = body_lands g o st Stands Step register_is owners_are old x (letters ++ box) clocks (seen items) (leased_course quiet_course session until) tree node session row (view_of before) leased live none_out none_sent (seen (slice_set items node after))
        new (letters ++ box_then) (record { session = session; until = until; runs = runs.1 }) sending (replying pending.call) pending.draft text point (ap stage_of stage) work
        (changes _ (ap view_of now ∙ ap (λ (s : words.Stage). record (view_of before) { log = record before.log { work = works.Opens point; out = true }; stage = s }) (ap stage_of stage)))
        (ap (λ (r : KindAndRuns). r.1) (sym (some_is (writes before.log (works.Opens point)) runs are))) in
        record { later = goes.0; next = tree; leads = refl; chain = goes.1; logged = told_as c.logs c.logs goes.0.logs [] goes.3 (λ slot one has. inl has); works = record { slots = goes.4.slots; doubts = goes.4.doubts }; stands = goes.2 }
    went all said are (SendsHomes pending point stage work now volume commits homes) =
        let goes = gate_lands g o st Stands Step register_is owners_are old x (letters ++ box) clocks (seen items) (seen (slice_set items node after)) (leased_course quiet_course session until) tree node session row (view_of before) leased live none_out none_sent
        new (letters ++ box_then) (record { session = session; until = until; runs = runs.1 }) sending (replying pending.call) pending.draft point (ap stage_of stage) work
        (held_in after.cache.kept) (away_in after.cache.kept) (lays_over pending.draft before.cache.kept after.cache.kept commits) (leaves_away pending.draft before.cache.kept after.cache.kept commits)
        (changes _ (ap view_of now ∙ ap (λ (h : Hints). record (view_of before) { held = held_in after.cache.kept; away = away_in after.cache.kept; hints = h; log = record before.log { count = before.log.count + 1; work = works.Idle; out = false }; stage = words.Homes })
        (ap (λ (l : List (ℕ × Block)). hint_in l) volume.hinted)))
        (subst (λ (r : KindAndRuns). (logs : Logs) (slot : ℕ) → ((at : ℕ) → away_in after.cache.kept at ≡ newest_in (logs slot) at) → AreItsHomes (st.made old).devices (st.made old).areas logs slot r.1)
        (some_is (16, home_runs after.cache.devices after.cache.kept) runs are)
        (its_homes (st.made old) after.cache.devices after.cache.areas (away_in after.cache.kept) (home_runs after.cache.devices after.cache.kept) (volume.devices ∙ made_devices) (volume.areas ∙ made_areas) homes)) in
        record { later = goes.2.0; next = goes.0; leads = leads_to pending.call point goes.0 goes.1; chain = goes.2.1; logged = λ slot one has. ⊎_elim inl (λ is. inr (told_with pending.call point one is.0 is.1)) (goes.2.3 slot one has); works = record { slots = goes.2.4.slots; doubts = goes.2.4.doubts }; stands = goes.2.2 }
    went all said are (SendsClosing stage now volume settles) =
        let goes = homes_land g o st Stands Step register_is owners_are old x (letters ++ box) clocks (seen items) (seen (slice_set items node after)) (leased_course quiet_course session until) tree node session row (view_of before) leased live none_out none_sent
        new (letters ++ box_then) (record { session = session; until = until; runs = runs.1 }) sending (ap stage_of stage) (held_in after.cache.kept) (away_in after.cache.kept)
        (shows_settled before.cache.kept after.cache.kept settles) (none_away before.cache.kept after.cache.kept settles)
        (changes _ (ap view_of now ∙ ap (λ (h : Hints). record (view_of before) { held = held_in after.cache.kept; away = away_in after.cache.kept; hints = h; log = record before.log { work = works.Closes; out = true }; stage = words.Closes })
        (ap (λ (l : List (ℕ × Block)). hint_in l) volume.hinted)))
        (ap (λ (r : KindAndRuns). r.1) (sym (some_is (writes before.log works.Closes) runs are))) in
        record { later = goes.0; next = tree; leads = refl; chain = goes.1; logged = told_as c.logs c.logs goes.0.logs [] goes.3 (λ slot one has. inl has); works = record { slots = goes.4.slots; doubts = goes.4.doubts }; stands = goes.2 }
    went all said are (SendsShut stage work now) =
        let goes = first_lands g o st Stands Step register_is owners_are old x (letters ++ box) clocks (seen items) (leased_course quiet_course session until) tree node session row (view_of before) leased live none_out none_sent (seen (slice_set items node after))
        new (letters ++ box_then) (record { session = session; until = until; runs = runs.1 }) sending (ap stage_of stage) work
        (changes _ (ap view_of now ∙ ap (λ (s : words.Stage). record (view_of before) { log = record before.log { count = 0; work = works.Shuts; out = true }; stage = s }) (ap stage_of stage)))
        (ap (λ (r : KindAndRuns). r.1) (sym (some_is (writes before.log works.Shuts) runs are))) in
        record { later = goes.0; next = tree; leads = refl; chain = goes.1; logged = told_as c.logs (with_log c.logs row.slot []) goes.0.logs [] goes.3 (λ slot one has. inl (emptied c.logs row.slot slot one has)); works = record { slots = goes.4.slots; doubts = goes.4.doubts }; stands = goes.2 }
    went all said are (Closed stage work now) = absurd cc

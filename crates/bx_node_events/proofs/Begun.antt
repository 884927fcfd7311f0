-- A node begins a record, and sends its body: the nodes stand.
use Rattle.std.proofs.Common.{◌≡◌, ◌≢◌, ⊎_elim, ◌∙◌, inl, ℕ, ◌<◌, Bool, true, false, List, Contains, length, Option, None, Some, IsSome, IsSomeAnd, refl, sym, ap, subst, arith}
use Rattle.std.specs.Prelude.{◌==◌, if◌then◌else◌, slice_get}
use Rattle.std.proofs.lemmas.Bool.Decides.{nat_tests}
use Rattle.bx_base.specs.declared.names.Mode.{Mode}
use Rattle.bx_base.specs.declared.names.Mode.TheVariants.{Shared, Exclusive}
use Rattle.bx_disk.specs.Disks.{Disks}
use Rattle.bx_facts.specs.declared.register.Register as register
use Rattle.bx_facts.specs.declared.store.Store as store
use Rattle.bx_facts.specs.Chains.{LivesIn, last, oldest}
use Rattle.bx_facts.specs.Holds.{Hold}
use Rattle.bx_facts.specs.Writes.{Sent}
use Rattle.bx_node_events.specs.Works.{LeavesWorks}
use Rattle.bx_node_events.proofs.Acting as acting
use Rattle.bx_node_events.proofs.Acting.{IsChanged, IsLive, IsOwn, Outcome, course_then}
use Rattle.bx_node_events.proofs.Landed as landed
use Rattle.bx_node_events.proofs.Unlogged.{in_no_log, none_in}
use Rattle.bx_node_events.proofs.Working.{IsSending}
use Rattle.bx_node_machines.specs.Machines as words
use Rattle.bx_node_machines.specs.Machines.{Fetch, IsAbout, IsAtWork, IsDoubtOf, IsUnseen, IsUnwritten, MachineView, Replying, Scene, act_of, is_one, number_of}
use Rattle.bx_node_machines.specs.Nodes.{NodesStand, hinted, known_of, nothing_held, scene_of, shown}
use Rattle.bx_node_sends.proofs.Begun.{begun_at, body_slot, with_doubt}
use Rattle.bx_facts.specs.declared.owners.Owners as owners
use Rattle.bx_places.specs.Places.{IsBlock}
use Rattle.bx_post.specs.declared.packets.Letter.{Letter}
use Rattle.bx_records.specs.Drafts.{Block, block_in}
use Rattle.bx_redo.specs.Steps.{writes}
use Rattle.bx_redo.specs.declared.work.Work.TheVariants as works
use Rattle.bx_rows.specs.declared.session.SessionRow.{SessionRow}
use Rattle.bx_views.specs.Attempts.{Deed, IsHeldDraft}
use Rattle.bx_views.specs.Truths.{Held, Hints, IsTruth, Truth}
use Rattle.bx_volume.specs.Records.{Logged, IsLogged, logged_text}
use Rattle.bx_world_logs.specs.Logs.{IsInLog, Slot, point_in}
use Rattle.bx_world_logs.proofs.Moving.{slot_here}
use Rattle.bx_world_standing.specs.Doubts.{IsActOf}
use Rattle.bx_world_standing.specs.Parts.{Clocks}
use Rattle.bx_world_standing.specs.Standing.{Course, Known, SureOf}
use Rattle.bx_world_standing.proofs.Owns.{own_is}
use Rattle.bx_world_views.specs.Views as views
use Rattle.bx_node_machines.specs.Recoveries.{RecoversNone}
use Rattle.bx_world_views.specs.Views.{Allows, Unacknowledged}

-- what the header of a record tells of what it does, where it has its call's number
act_is : (call : Option Replying) (more : Logged) → more.head.call ≡ number_of call → IsActOf more (act_of call (point_in more))
act_is None more numbered = numbered
act_is (Some one) more numbered = (refl, refl, refl)

none_in_draft : (found : Option Block) → (IsSome found → ⊥) → found ≡ None
none_in_draft None none = refl
none_in_draft (Some one) none = absurd (none refl)

module _ {G O S T : Type 0} (g : register.Ghosts G) (o : owners.Ghosts O) (st : store.Ghosts S) (Stands : Truth → Hints → T → Type 0) (Step : T → Deed → T → Type 0)
    (register_is : G) (owners_are : O) (old : S) (x : Disks) (letters : List Letter) (clocks : Clocks) (machines later : List MachineView) (c : Course) (tree : T)
    (node session : ℕ) (row : SessionRow) (before : MachineView) (more : Logged) (call : Option Replying)
    (stands : NodesStand g o st Stands Step register_is owners_are old x letters clocks machines c tree)
    (live : IsLive (o.own owners_are) clocks (last c.register.chain) machines node session row before)
    (rests : before.stage ≡ words.Idle)
    (none_sent : (other : Sent) → Contains c.store.writes other → other.session ≢ session)
    (new : S) (then_letters : List Letter) (write : Sent) (sending : IsSending g o st register_is owners_are old new x c then_letters node session write)
    (changed : IsChanged machines later node (record before { log = record before.log { work = works.Body (logged_text more) (point_in more); out = true }; stage = words.Records call more.changed }))
    (fair : IsHeldDraft before.held more.changed) where
  abbrev known : Known
  known = known_of g o st Stands Step register_is owners_are old x letters clocks machines

  abbrev Sure : ℕ → ℕ → List ℕ → Type 0
  Sure = SureOf g o st Stands Step register_is owners_are old x known c

  abbrev Before : Scene
  Before = scene_of g o st Stands Step register_is owners_are old x clocks.down machines c

  its : IsAbout (st.made old).devices (st.made old).areas Sure (st.will_read old x c.store node) Before node session row.slot before
  its = stands.about.each node session before row live.there live.mark (own_is clocks.down (o.own owners_are) node session live.up live.own) live.is_row live.lives

  at_rest : IsAtWork (st.made old).devices (st.made old).areas Sure Before node session row.slot before words.Idle
  at_rest = subst (λ stage. IsAtWork (st.made old).devices (st.made old).areas Sure Before node session row.slot before stage) rests its.work

  none_out : st.out_of old node ≡ None
  none_out = at_rest.3

  lives_it : LivesIn (last c.register.chain) session
  lives_it = landed.lives_it g o st Stands Step register_is owners_are old x letters clocks machines c tree node session row before stands live none_out none_sent

  low : row.slot < 8
  low = landed.low g o st Stands Step register_is owners_are old x letters clocks machines c tree node session row before stands live none_out none_sent

  shows : shown (slice_get machines node) (o.own owners_are node) ≡ before.held
  shows = ap (λ (m : Option MachineView). shown m (o.own owners_are node)) live.there ∙ ap (λ (own_is_it : Option ℕ). if is_one before.session own_is_it then before.held else nothing_held) live.own
      ∙ ap (λ (mark_is : Option ℕ). if is_one mark_is (Some session) then before.held else nothing_held) live.mark
      ∙ (let t : is_one (Some session) (Some session) ≡ true = grind (arith, nat_tests) in ap (λ (b : Bool). if b then before.held else nothing_held) t)

  fair_shown : IsHeldDraft (shown (slice_get machines node) (o.own owners_are node)) more.changed
  fair_shown = subst (λ (h : Held). IsHeldDraft h more.changed) (sym shows) fair

  -- the record in doubt
  abbrev its_doubt : Unacknowledged
  its_doubt = record { call = number_of call; act = act_of call (point_in more); draft = more.changed; held = shown (slice_get machines node) (o.own owners_are node); hints = hinted (slice_get machines node) }

  abbrev begun_to : Outcome
  begun_to = record {
    held = before.held;
    away = before.away;
    log = record before.log { work = works.Body (logged_text more) (point_in more); out = true };
    stage = words.Records call more.changed;
    before = c.before;
    logs = c.logs;
    slot = body_slot more;
    truth = c.truth;
    doubts = with_doubt c.doubts session its_doubt;
  }

  -- each block of the record its session holds exclusively
  holds_it : (block : ℕ) → IsSome (block_in more.changed block) → (hold : Hold) × (c.owners.holding session block ≡ Some hold) × (hold.0 ≡ Exclusive)
  holds_it block some = by (shown (slice_get machines node) (o.own owners_are node) block Exclusive) refl (fair_shown.each block some)
    where
      exclusive : (found : Option Hold) → c.owners.holding session block ≡ found → Allows found Exclusive → (hold : Hold) × (c.owners.holding session block ≡ Some hold) × (hold.0 ≡ Exclusive)
      exclusive None is allowed = absurd allowed
      exclusive (Some hold) is allowed = (hold, is, ⊎_elim (λ e. e) (λ e. e) allowed)

      by : (found : Option Block) → shown (slice_get machines node) (o.own owners_are node) block Exclusive ≡ found → IsSome found → (hold : Hold) × (c.owners.holding session block ≡ Some hold) × (hold.0 ≡ Exclusive)
      by None is none = absurd cc
      by (Some one) is some_one = exclusive (c.owners.holding session block) refl
          ((stands.at.volume.views node session (own_is clocks.down (o.own owners_are) node session live.up live.own) lives_it).holds block Exclusive one is)

  -- so no log has it
  alone : (other block : ℕ) → other < 8 → IsInLog c.logs c.slots other block → IsSome (block_in more.changed block) → other ≡ row.slot
  alone other block less inside some =
      let held = holds_it block some in
      absurd (in_no_log Sure (st.made old).devices (st.made old).areas (last c.register.chain) live.allowed c.before c.logs c.slots c.truth stands.at.logs c.owners.holding (oldest c.register.chain) stands.at.rights stands.at.volume.apart
      session block row held.0 live.is_row held.1 (λ n has. sending.alone session n block held.0 lives_it has held.1)
      (none_in c.logs c.slots row.slot block at_rest.2 at_rest.1) other less inside)

  -- and no other live session holds it
  held_by : (other block : ℕ) (mode : Mode) → other ≢ session → LivesIn (last c.register.chain) other → Allows (c.owners.holding other block) mode → IsSome (block_in more.changed block) → ⊥
  held_by other block mode ne other_lives allows some = by (c.owners.holding other block) refl allows
    where
      held : (hold : Hold) × (c.owners.holding session block ≡ Some hold) × (hold.0 ≡ Exclusive)
      held = holds_it block some

      by : (found : Option Hold) → c.owners.holding other block ≡ found → Allows found mode → ⊥
      by None is allowed = allowed
      by (Some hold) is allowed =
          let both = stands.at.volume.apart.each session other block held.0 hold (stands.at.volume.rows session lives_it) (stands.at.volume.rows other other_lives) ne held.1 is in
          let wrong : Shared ≡ Exclusive = sym both.0 ∙ held.2 in cc

  -- what the node reads isn't in the record, whose blocks it shows
  unread : (block : ℕ) (mode : Mode) → before.fetch ≡ words.Block block mode → IsSome (block_in more.changed block) → ⊥
  unread block mode is some = by (before.held block Exclusive) ((subst (λ (fetch : Fetch). IsUnseen before.held fetch) is its.unseen) Exclusive) (fair.each block some)
    where
      by : (found : Option Block) → found ≡ None → IsSome found → ⊥
      by None is_none some_one = cc
      by (Some one) is_none some_one = cc

  own : IsOwn (st.made old).devices (st.made old).areas c row.slot session before.fetch begun_to
  own = record {
    is_slot = its.is_slot;
    device = its.device;
    count = its.count;
    logs = λ other ne. refl;
    doubts = λ other ne. let t : (other == session) ≡ false = grind (arith, nat_tests, ne) in ap (λ (b : Bool). if b then Some its_doubt else c.doubts other) t;
    homes = λ block i is_block unlogged few. refl;
    unlogged = λ block unlogged unwritten. unlogged row.slot low;
    unread = λ block mode fetched unwritten begun. none_in_draft (block_in more.changed block) (unread block mode fetched);
    unread_by = λ other block mode ne other_lives allows unwritten begun. none_in_draft (block_in more.changed block) (held_by other block mode ne other_lives allows);
    unseen = its.unseen;
    elsewhere = λ other d s ne few inside. refl;
  }

  doubt_here : with_doubt c.doubts session its_doubt session ≡ Some its_doubt
  doubt_here = let t : (session == session) ≡ true = grind (arith, nat_tests) in ap (λ (b : Bool). if b then Some its_doubt else c.doubts session) t

  -- The nodes stand with the record under way and its body out.
  pub begins : IsLogged (st.made old).areas more → ((block : ℕ) → IsSome (block_in more.changed block) → IsBlock (st.made old).areas block) → more.head.call ≡ number_of call
      → ((other : Truth) (t : T) → IsTruth before.held other → Stands other before.hints t → views.Works Stands Step (act_of call (point_in more)) more.changed other t)
      → write.runs ≡ (writes before.log (works.Body (logged_text more) (point_in more))).1
      → (course : Course) × (course.register.chain ≡ c.register.chain) × NodesStand g o st Stands Step register_is owners_are new x then_letters clocks later course tree × (course.logs ≡ c.logs) × LeavesWorks (Some session) c course
  begins is blocks numbered gives runs = landed.next_sends g o st Stands Step register_is owners_are old x letters clocks machines c tree node session row before stands live none_out none_sent later new then_letters write sending begun_to tree changed own
      (acting.shown_still g o st Stands Step register_is owners_are old x letters clocks machines later c tree tree node session row before begun_to stands live changed own (course_then c row.slot begun_to) tree (λ block mode. refl)
      (begun_at g o st Stands Step register_is owners_are old x known c tree node session row more (number_of call) (act_of call (point_in more)) stands.at live.up live.own lives_it live.is_row live.allowed
      at_rest.1 (let empty = ap (λ l. length l) at_rest.2 in omega (arith, empty)) is blocks alone fair_shown
      (λ other t truth agrees. gives other t (subst (λ (h : Held). IsTruth h other) shows truth) (subst (λ (m : Option MachineView). Stands other (hinted m) t) live.there agrees))
      (record { draft = refl; call = numbered; act = act_is call more numbered })))
      (subst (λ stage. RecoversNone stage) (sym rests) tt) tt refl runs
      (λ flying. (
        tt,
        refl,
        ap (λ (l : Slot). l.activity) (slot_here c.slots row.slot (body_slot more)),
        inl flying,
        subst (λ (found : Option Unacknowledged). IsSomeAnd found (IsDoubtOf call more.changed (point_in more))) (sym doubt_here) (record { draft_is = refl; call_is = refl; numbered = numbered; act_is = refl }),
        at_rest.5,
      ))

-- A node's own slot goes on by an event, and at most one write of its session is sent: the nodes stand.
use Rattle.std.proofs.Common.{◌≡◌, ◌≢◌, ◌⊎◌, ⊎_elim, ◌∙◌, inl, inr, ℕ, ◌+◌, ◌<◌, Bool, true, false, eqb, List, ◌∷◌, length, Contains, Option, None, Some, refl, sym, ap, subst, arith}
use Rattle.std.specs.Prelude.{◌==◌, ◌&&◌, if◌then◌else◌, slice_get}
use Rattle.std.proofs.lemmas.Bool.Decides.{nat_tests}
use Rattle.bx_base.specs.declared.names.Actor.TheVariants.{Node}
use Rattle.bx_base.specs.declared.names.Mode.{Mode}
use Rattle.bx_disk.specs.Disks.{Disks, Image}
use Rattle.bx_facts.specs.declared.register.Register as register
use Rattle.bx_facts.specs.declared.store.Store as store
use Rattle.bx_facts.specs.Chains.{LivesIn, last, oldest}
use Rattle.bx_facts.specs.Writes.{IsOnly, IsOver, Made, Sent, WritesIn, WritesTo}
use Rattle.bx_facts.proofs.Lists.{front_or_behind}
use Rattle.bx_global.specs.Allowed.{IsAllowed}
use Rattle.bx_global.specs.declared.state.GlobalState.{GlobalState}
use Rattle.bx_node_machines.specs.Machines as words
use Rattle.bx_node_machines.specs.Machines.{AreAbout, Fetch, IsAbout, IsAtWork, IsFetched, IsFetching, IsFlying, IsUnseen, IsUnwritten, MachineView, Scene, Stage, home_of, is_one, is_under}
use Rattle.bx_node_machines.specs.Nodes.{IsOfNode, NodesStand, hinted, known_of, nothing_held, scene_of, shown}
use Rattle.bx_node_machines.proofs.Leaving.{Leaves, LeavesSlot, acts, given_on, leaves_then}
use Rattle.bx_node_machines.proofs.Owning as owning
use Rattle.bx_node_machines.proofs.Sending.{fetching, landing_leaves, sending_leaves}
use Rattle.bx_node_sends.proofs.Sent.{sent_at, surely_on, with_write}
use Rattle.bx_node_views.proofs.Touching.{may_write, touch_clash}
use Rattle.bx_node_events.specs.Works.{LeavesWorks}
use Rattle.bx_node_events.proofs.Working.{IsHanded, IsSending, MaySend, SureBehind}
use Rattle.bx_facts.specs.declared.owners.Owners as owners
use Rattle.bx_places.specs.Places.{IsBlock, block_place, log_device}
use Rattle.bx_post.specs.declared.packets.Letter.{Letter}
use Rattle.bx_records.specs.Drafts.{Block, block_in}
use Rattle.bx_records.specs.declared.runs.Run.{Run}
use Rattle.bx_redo.specs.View.{LogView}
use Rattle.bx_node_events.proofs.Sparing.{apart_slots, claims_stay, near_touches, only_ended, recover_then}
use Rattle.bx_node_machines.specs.Recoveries.{AreRecovering, IsActive, RecoversNone, around_in}
use Rattle.bx_node_machines.specs.Recovering.{HasEnded}
use Rattle.bx_node_machines.specs.bx_recover.specs.Recovering.{RecoveryView}
use Rattle.bx_node_machines.specs.bx_recover.specs.declared.stage.Stage as recover
use Rattle.bx_node_machines.proofs.Going.{IsNear, SparesClosed, SparesSlot}
use Rattle.bx_node_machines.proofs.Ongoing.{HasNone, WasActive, none_recovered, one_changes, suits_on}
use Rattle.bx_world_chains.specs.Entitled.{IsEntitled}
use Rattle.bx_rows.specs.Words.{row_in}
use Rattle.bx_rows.specs.declared.session.SessionRow.{SessionRow}
use Rattle.bx_views.specs.Attempts.{Deed}
use Rattle.bx_views.specs.Truths.{Held, Hints, Truth}
use Rattle.bx_volume.specs.Overlay.{IsUnlogged, Logs}
use Rattle.bx_volume.specs.Records.{newest_in}
use Rattle.bx_world_chains.proofs.Rows.{lives_of, one_slot}
use Rattle.bx_world_logs.specs.Logs.{Slot, begins}
use Rattle.bx_world_logs.proofs.Moving.{slot_here, slot_there, with_slot}
use Rattle.bx_world_standing.specs.Parts.{Clocks}
use Rattle.bx_world_standing.specs.Rights.{IsOfSlot, MayTouch}
use Rattle.bx_world_standing.specs.Standing.{Course, Known, StandsAt, SureOf}
use Rattle.bx_world_standing.proofs.Owns.{own_is}
use Rattle.bx_world_views.specs.Views.{Allows, Unacknowledged}

-- What an event makes of a node's machine and of the course: what its cache shows, which blocks aren't home, its log and what that is for; what the devices
-- hold, the records of logs, what is under way in its slot, what each block holds, and what is in doubt.
pub record Outcome : Type 0 where
  pub held : Held
  pub away : ℕ → Option Block
  pub log : LogView
  pub stage : Stage
  pub before : Image
  pub logs : Logs
  pub slot : Slot
  pub truth : Truth
  pub doubts : ℕ → Option Unacknowledged

abbrev pub machine_then : MachineView → Outcome → MachineView
machine_then machine to = record machine { held = to.held; away = to.away; log = to.log; stage = to.stage }

abbrev pub course_then : Course → ℕ → Outcome → Course
course_then c slot to = record c { before = to.before; logs = to.logs; slots = with_slot c.slots slot to.slot; truth = to.truth; doubts = to.doubts }

-- A node that is up has what it has under a session of its own that is live, by its row in a state that is allowed.
pub record IsLive (own_of : ℕ → Option ℕ) (clocks : Clocks) (s : GlobalState) (machines : List MachineView) (node session : ℕ) (row : SessionRow) (machine : MachineView) : Type 0 where
  pub up : clocks.down (Node node) ≡ false
  pub own : own_of node ≡ Some session
  pub allowed : IsAllowed s
  pub is_row : row_in s.sessions session ≡ Some row
  pub lives : row.dead ≡ 0
  pub there : slice_get machines node ≡ Some machine
  pub mark : machine.session ≡ Some session

-- That machine becomes another, and no other does.
pub record IsChanged (old new : List MachineView) (node : ℕ) (machine : MachineView) : Type 0 where
  pub here : slice_get new node ≡ Some machine
  pub others : (other : ℕ) → other ≢ node → slice_get new other ≡ slice_get old other

-- The event is in its own slot: no other slot's records and no other session's doubt change; homes of blocks that no log has, and other slots, hold what they held; a block that
-- no log and no record under way had is in no log; and no record under way has a block that is read.
pub record IsOwn (devices areas : ℕ) (c : Course) (slot session : ℕ) (fetch : Fetch) (to : Outcome) : Type 0 where
  pub is_slot : to.log.slot ≡ slot
  pub device : to.log.device ≡ log_device slot devices
  pub count : to.log.count ≡ length (to.logs slot)
  pub logs : (other : ℕ) → other ≢ slot → to.logs other ≡ c.logs other
  pub doubts : (other : ℕ) → other ≢ session → to.doubts other ≡ c.doubts other
  pub homes : (block i : ℕ) → IsBlock areas block → IsUnlogged c.logs block → i < 9
      → to.before (block_place block devices).0 ((block_place block devices).1 + i) ≡ c.before (block_place block devices).0 ((block_place block devices).1 + i)
  pub unlogged : (block : ℕ) → IsUnlogged c.logs block → IsUnwritten c.slots block → newest_in (to.logs slot) block ≡ None
  pub unread : (block : ℕ) (mode : Mode) → fetch ≡ words.Block block mode → IsUnwritten c.slots block → begins to.slot.activity ≡ true → block_in to.slot.more.changed block ≡ None
  pub unread_by : (other block : ℕ) (mode : Mode) → other ≢ session → LivesIn (last c.register.chain) other → Allows (c.owners.holding other block) mode → IsUnwritten c.slots block
      → begins to.slot.activity ≡ true → block_in to.slot.more.changed block ≡ None
  pub unseen : IsUnseen to.held fetch
  pub elsewhere : (other d s : ℕ) → other ≢ slot → other < 8 → IsOfSlot devices other d s → to.before d s ≡ c.before d s

module _ {G O S T : Type 0} (g : register.Ghosts G) (o : owners.Ghosts O) (st : store.Ghosts S) (Stands : Truth → Hints → T → Type 0) (Step : T → Deed → T → Type 0)
    (register_is : G) (owners_are : O) (old : S) (x : Disks) (letters : List Letter) (clocks : Clocks) (machines later : List MachineView) (c : Course) (tree next : T)
    (node session : ℕ) (row : SessionRow) (before : MachineView) (to : Outcome)
    (stands : NodesStand g o st Stands Step register_is owners_are old x letters clocks machines c tree)
    (live : IsLive (o.own owners_are) clocks (last c.register.chain) machines node session row before)
    (changed : IsChanged machines later node (machine_then before to))
    (own : IsOwn (st.made old).devices (st.made old).areas c row.slot session before.fetch to) where
  abbrev known : Known
  known = known_of g o st Stands Step register_is owners_are old x letters clocks machines

  abbrev then_known : Known
  then_known = known_of g o st Stands Step register_is owners_are old x letters clocks later

  abbrev after : MachineView
  after = machine_then before to

  abbrev Sure : ℕ → ℕ → List ℕ → Type 0
  Sure = SureOf g o st Stands Step register_is owners_are old x known c

  abbrev Before : Scene
  Before = scene_of g o st Stands Step register_is owners_are old x clocks.down machines c

  abbrev Middle : Scene
  Middle = scene_of g o st Stands Step register_is owners_are old x clocks.down later (course_then c row.slot to)

  its : IsAbout (st.made old).devices (st.made old).areas Sure (st.will_read old x c.store node) Before node session row.slot before
  its = stands.about.each node session before row live.there live.mark (own_is clocks.down (o.own owners_are) node session live.up live.own) live.is_row live.lives

  low : row.slot < 8
  low = owning.low (st.made old).devices (st.made old).areas Sure c.before (last c.register.chain) live.allowed c.owners.holding c.logs c.slots c.truth stands.at.logs session row live.is_row live.lives

  lives_it : LivesIn (last c.register.chain) session
  lives_it = lives_of (last c.register.chain) session row live.is_row live.lives

  other_slot : (other : ℕ) (its_row : SessionRow) → row_in (last c.register.chain).sessions other ≡ Some its_row → other ≢ session → its_row.slot ≢ row.slot
  other_slot other its_row has ne e = ne (one_slot (last c.register.chain).sessions other session its_row row live.allowed.own_slots has live.is_row e)

  -- ---- what the event leaves of others

  leaves_slot : (other : ℕ) (its_row : SessionRow) → row_in (last c.register.chain).sessions other ≡ Some its_row → other ≢ session → LeavesSlot Before Middle other its_row.slot
  leaves_slot other its_row has ne = record {
    logs = own.logs its_row.slot (other_slot other its_row has ne);
    slots = ap (λ (l : Slot). l.activity) (slot_there c.slots row.slot its_row.slot to.slot (other_slot other its_row has ne));
    doubts = own.doubts other ne;
  }

  -- another session than this one
  is_other : (other : ℕ) → Some session ≢ Some other → other ≢ session
  is_other other ne e = ne (ap (λ (n : ℕ). Some n) (sym e))

  -- What is of other sessions stays.
  pub leaves_works : LeavesWorks (Some session) c (course_then c row.slot to)
  leaves_works = record {
    slots = λ other its_row ne has. (leaves_slot other its_row has (is_other other ne)).slots;
    doubts = λ other ne. own.doubts other (is_other other ne);
  }

  unlogged_then : (block : ℕ) → IsUnwritten c.slots block → IsUnlogged c.logs block → IsUnlogged to.logs block
  unlogged_then block unwritten unlogged slot less = by (eqb slot row.slot) refl
    where
      by : (b : Bool) → eqb slot row.slot ≡ b → newest_in (to.logs slot) block ≡ None
      by true is = let e : slot ≡ row.slot = grind (arith, nat_tests, is) in ap (λ (n : ℕ). newest_in (to.logs n) block) e ∙ own.unlogged block unlogged unwritten
      by false is = let same = own.logs slot (λ e. grind (arith, nat_tests, is, e)) in ap (λ l. newest_in l block) same ∙ unlogged slot less

  unwritten_then : (block : ℕ) → (begins to.slot.activity ≡ true → block_in to.slot.more.changed block ≡ None) → IsUnwritten c.slots block → IsUnwritten (with_slot c.slots row.slot to.slot) block
  unwritten_then block none was slot less on = by (eqb slot row.slot) refl
    where
      by : (b : Bool) → eqb slot row.slot ≡ b → block_in (with_slot c.slots row.slot to.slot slot).more.changed block ≡ None
      by true is =
          let e : slot ≡ row.slot = grind (arith, nat_tests, is) in
          let here = ap (λ (n : ℕ). with_slot c.slots row.slot to.slot n) e ∙ slot_here c.slots row.slot to.slot in
          ap (λ (l : Slot). block_in l.more.changed block) here ∙ none (sym (ap (λ (l : Slot). begins l.activity) here) ∙ on)
      by false is =
          let there = slot_there c.slots row.slot slot to.slot (λ e. grind (arith, nat_tests, is, e)) in
          ap (λ (l : Slot). block_in l.more.changed block) there ∙ was slot less (sym (ap (λ (l : Slot). begins l.activity) there) ∙ on)

  -- what any node reads is where it was
  reads_then : (reader block : ℕ) → IsBlock (st.made old).areas block → IsUnlogged c.logs block → (i : ℕ) → i < 9
      → st.will_read old x c.store reader ((block_place block (st.made old).devices).1 + i) (c.before (block_place block (st.made old).devices).0 ((block_place block (st.made old).devices).1 + i))
      → st.will_read old x c.store reader ((block_place block (st.made old).devices).1 + i) (to.before (block_place block (st.made old).devices).0 ((block_place block (st.made old).devices).1 + i))
  reads_then reader block is unlogged i few was = subst (λ (content : List ℕ). st.will_read old x c.store reader ((block_place block (st.made old).devices).1 + i) content) (sym (own.homes block i is unlogged few)) was

  abbrev Touches : ℕ → ℕ → ℕ → Type 0
  Touches one d s = MayTouch (st.made old).devices (st.made old).areas (last c.register.chain) c.owners.holding c.logs c.slots one d s

  lands : (other its_session : ℕ) (its_row : SessionRow) → its_session ≢ session → row_in (last c.register.chain).sessions its_session ≡ Some its_row → its_row.dead ≡ 0
      → Leaves (st.made old).devices (st.made old).areas (Touches its_session) Sure Sure (st.will_read old x c.store other) (st.will_read old x c.store other) Before Middle other its_session its_row.slot
  lands other its_session its_row apart has other_lives = landing_leaves (st.made old).devices (st.made old).areas (Touches its_session) Sure Sure (st.will_read old x c.store other) (st.will_read old x c.store other)
      Before Middle other its_session its_row.slot (leaves_slot its_session its_row has apart) refl refl refl
      (λ d s content sure. sure) (λ block mode allows. allows)
      (λ block mode allows unwritten unlogged. unlogged_then block unwritten unlogged)
      (λ block mode allows unwritten. unwritten_then block (own.unread_by its_session block mode apart (lives_of (last c.register.chain) its_session its_row has other_lives) allows unwritten) unwritten)
      (λ block is unlogged i few asked was. reads_then other block is unlogged i few was)

  -- ---- what the node itself reads

  fetch_then : IsFetching (st.made old).devices (st.made old).areas (st.will_read old x c.store node) Middle node session before.fetch
  fetch_then = by before.fetch refl its.fetch
    where
      by : (fetch : Fetch) → before.fetch ≡ fetch → IsFetching (st.made old).devices (st.made old).areas (st.will_read old x c.store node) Before node session fetch
          → IsFetching (st.made old).devices (st.made old).areas (st.will_read old x c.store node) Middle node session fetch
      by words.Nothing is none = none
      by (words.Block block mode) is was = record {
        is = was.is;
        allows = was.allows;
        unlogged = unlogged_then block was.unwritten was.unlogged;
        unwritten = unwritten_then block (own.unread block mode is was.unwritten) was.unwritten;
        asked = ⊎_elim (λ none. inl none) (λ some. inr (some.0, λ i few. reads_then node block was.is was.unlogged i few (some.1 i few))) was.asked;
      }
      by words.Dropped is was = was
      by words.OfLog is was = was

  -- ---- the nodes

  under_it : is_under (slice_get later node) (Some session) session ≡ true
  under_it = ap (λ (m : Option MachineView). is_under m (Some session) session) changed.here ∙ ap (λ (mark_is : Option ℕ). is_one mark_is (Some session) && (session == session)) live.mark ∙ twice
    where
      twice : ((session == session) && (session == session)) ≡ true
      twice = let t : (session == session) ≡ true = grind (arith, nat_tests) in ap (λ (b : Bool). b && b) t

  one_machine : (a b : MachineView) → Some a ≡ Some b → a ≡ b
  one_machine a b e = cc

  one_row : (a b : SessionRow) → Some a ≡ Some b → a ≡ b
  one_row a b e = cc

  -- whoever else is about something is so still, where this is so of each other live session
  all_about : (Sure_then : ℕ → ℕ → List ℕ → Type 0) (Reads_then : ℕ → ℕ → List ℕ → Type 0) (Then : Scene) → Then.rows ≡ Before.rows → ((other : ℕ) → Then.own other ≡ Before.own other) → Then.machines ≡ slice_get later
      → ((other : ℕ) (its_row : SessionRow) → row_in (last c.register.chain).sessions other ≡ Some its_row → other ≢ session → LeavesSlot Before Then other its_row.slot)
      → ((other its_session : ℕ) (its_row : SessionRow) → other ≢ node → its_session ≢ session → row_in (last c.register.chain).sessions its_session ≡ Some its_row → its_row.dead ≡ 0
      → Leaves (st.made old).devices (st.made old).areas (Touches its_session) Sure Sure_then (st.will_read old x c.store other) (Reads_then other) Before Then other its_session its_row.slot)
      → IsAbout (st.made old).devices (st.made old).areas Sure_then (Reads_then node) Then node session row.slot after
      → AreAbout (st.made old).devices (st.made old).areas Sure_then Reads_then (IsOfNode o.by_boot clocks) Then
  all_about Sure_then Reads_then Then rows owns are slots leaves here = acts (st.made old).devices (st.made old).areas Touches Sure Sure_then (st.will_read old x c.store) Reads_then (IsOfNode o.by_boot clocks) Before Then node session
      stands.about rows owns (own_is clocks.down (o.own owners_are) node session live.up live.own)
      (ap (λ (f : ℕ → Option MachineView). is_under (f node) (Some session) session) are ∙ under_it)
      (λ other ne. ap (λ (f : ℕ → Option MachineView). f other) are ∙ changed.others other ne)
      (λ other its_row has other_lives ne. slots other its_row has ne)
      (λ other its_session its_row ne apart its_own has other_lives. leaves other its_session its_row ne apart has other_lives)
      (λ other its_session its_machine its_row has other_lives about. owning.may_work (st.made old).devices (st.made old).areas Sure c.before (last c.register.chain) live.allowed c.owners.holding c.logs c.slots c.truth stands.at.logs its_session its_row has other_lives
      (st.will_read old x c.store other) Before other its_machine refl refl about)
      (λ other its_own. stands.single node other session (own_is clocks.down (o.own owners_are) node session live.up live.own) its_own)
      (λ one its_row has row_has its_lives. subst (λ (m : MachineView). IsAbout (st.made old).devices (st.made old).areas Sure_then (Reads_then node) Then node session its_row.slot m)
      (one_machine after one (sym changed.here ∙ sym (ap (λ (f : ℕ → Option MachineView). f node) are) ∙ has))
      (subst (λ (r : SessionRow). IsAbout (st.made old).devices (st.made old).areas Sure_then (Reads_then node) Then node session r.slot after) (one_row row its_row (sym live.is_row ∙ row_has)) here))

  -- What the nodes show is as it was, where the machine shows what it did.
  pub shown_still : (c_then : Course) (t : T) → ((block : ℕ) (mode : Mode) → to.held block mode ≡ before.held block mode)
      → StandsAt g o st Stands Step register_is owners_are old x known c_then t → StandsAt g o st Stands Step register_is owners_are old x then_known c_then t
  shown_still c_then t same = subst (λ (k : Known). StandsAt g o st Stands Step register_is owners_are old x k c_then t)
      (λ i. record { letters = letters; clocks = clocks; held = λ n block mode. (shows n (eqb n node) refl).0 block mode i; hints = λ n. (shows n (eqb n node) refl).1 i })
    where
      if_same : (b : Bool) (one other : Held) → ((block : ℕ) (mode : Mode) → one block mode ≡ other block mode) → (block : ℕ) (mode : Mode) → (if b then one else nothing_held) block mode ≡ (if b then other else nothing_held) block mode
      if_same true one other are block mode = are block mode
      if_same false one other are block mode = refl

      shows : (n : ℕ) (b : Bool) → eqb n node ≡ b
          → ((block : ℕ) (mode : Mode) → shown (slice_get machines n) (o.own owners_are n) block mode ≡ shown (slice_get later n) (o.own owners_are n) block mode) × (hinted (slice_get machines n) ≡ hinted (slice_get later n))
      shows n true is =
          let e : n ≡ node = grind (arith, nat_tests, is) in
          let was = ap (λ (k : ℕ). slice_get machines k) e ∙ live.there in
          let now = ap (λ (k : ℕ). slice_get later k) e ∙ changed.here in (
            λ block mode. ap (λ (m : Option MachineView). shown m (o.own owners_are n) block mode) was
                ∙ sym (if_same (is_one before.session (o.own owners_are n)) to.held before.held same block mode) ∙ sym (ap (λ (m : Option MachineView). shown m (o.own owners_are n) block mode) now),
            ap hinted was ∙ sym (ap hinted now),
          )
      shows n false is = let same_one = sym (changed.others n (λ e. grind (arith, nat_tests, is, e))) in (
        λ block mode. ap (λ (m : Option MachineView). shown m (o.own owners_are n) block mode) same_one,
        ap hinted same_one,
      )

  module _ (at : StandsAt g o st Stands Step register_is owners_are old x then_known (course_then c row.slot to) next) (resting : RecoversNone before.stage) (rests_then : RecoversNone to.stage) where
    -- the slots that others recover aren't this one
    spared : (its_session gone slot : ℕ) → IsEntitled (last c.register.chain) gone slot its_session → gone ≢ its_session → slot ≢ row.slot
    spared its_session gone slot claimed ne = apart_slots (last c.register.chain) gone slot its_session session row live.allowed claimed ne live.is_row live.lives

    -- no machine recovers what it didn't recover
    were_active : (Then : Scene) → Then.machines ≡ slice_get later → ((other : ℕ) → Then.own other ≡ Before.own other) → Then.rows ≡ Before.rows
        → (other its_session : ℕ) (one : MachineView) (its_row : SessionRow) → IsActive Then other its_session one its_row → WasActive Before other its_session one ⊎ HasNone one
    were_active Then are owns rows = one_changes Before Then node before after live.there (ap (λ (f : ℕ → Option MachineView). f node) are ∙ changed.here)
        (λ other ne. ap (λ (f : ℕ → Option MachineView). f other) are ∙ changed.others other ne) owns rows refl refl
        (λ gone recovery is. absurd (none_recovered to.stage gone recovery rests_then is)) (λ suits. suits_on before.stage to.stage before.fetch resting rests_then suits)

    -- Nothing is sent: the nodes stand.
    pub rests_on : IsAtWork (st.made old).devices (st.made old).areas Sure Middle node session row.slot after to.stage
        → NodesStand g o st Stands Step register_is owners_are old x letters clocks later (course_then c row.slot to) next
    rests_on work = record {
      at = at;
      about = all_about Sure (st.will_read old x c.store) Middle refl (λ other. refl) refl leaves_slot
          (λ other its_session its_row ne apart has other_lives. lands other its_session its_row apart has other_lives)
          (record { is_slot = own.is_slot; device = own.device; count = own.count; work = work; fetch = fetch_then; unseen = own.unseen });
      recovering = recover_then g o st Stands Step register_is owners_are old x known c tree machines stands.at live.allowed Sure (st.will_read old x c.store) c.register.chain (λ n. c.store.told.knew (Node n)) c.register.proposed Middle
          stands.recovering (were_active Middle refl (λ other. refl) refl) (omega arith) (λ gone few has. has)
          (λ other its_session one was its_row row_was gone slot stage active active_was of few claimed ne. inl (record {
            logs = own.logs slot (spared its_session gone slot claimed ne);
            slots = slot_there c.slots row.slot slot to.slot (spared its_session gone slot claimed ne);
            before = λ d s inside. own.elsewhere slot d s (spared its_session gone slot claimed ne) few inside;
            asked = inl refl;
            out = inl refl;
            sent = λ write has whose. has;
            sure = λ d s content near is. is;
            reads = λ asks s content was_asked is near is_sure read. read;
          }))
          (claims_stay g o st Stands Step register_is owners_are old x known c tree machines stands.at live.allowed (IsActive Middle) (λ n. c.store.told.knew (Node n)) (λ other its_session one its_row active. omega arith))
          (λ other its_session one its_row gone stage active of under_way has. has);
      single = stands.single;
      told = stands.told;
      given = given_on machines later (last c.register.chain).next_session node before (machine_then before to) stands.given live.there changed.here refl changed.others;
    }

    -- ---- a write is sent

    module _ (new : S) (then_letters : List Letter) (write : Sent)
        (sending : IsSending g o st register_is owners_are old new x c then_letters node session write)
        (may_before : (d s : ℕ) (content : List ℕ) → WritesTo write d s content → MayTouch (st.made old).devices (st.made old).areas (last c.register.chain) c.owners.holding c.logs c.slots session d s)
        (may_then : IsHanded st old new x c.store then_letters node write → MaySend (st.made old).devices (st.made old).areas (SureBehind o st owners_are (st.made old) new x clocks c then_letters write) (course_then c row.slot to) session write)
        (none_out : st.out_of old node ≡ None)
        (none_sent : (other : Sent) → Contains c.store.writes other → other.session ≢ session) where
      abbrev Then : Scene
      Then = scene_of g o st Stands Step register_is owners_are new x clocks.down later (with_write (course_then c row.slot to) then_letters write)

      abbrev SureBy : Made → ℕ → ℕ → List ℕ → Type 0
      SureBy made = SureBehind o st owners_are made new x clocks c then_letters write

      -- it may be sent, so the store has it
      handed : IsHanded st old new x c.store then_letters node write
      handed = sending.handed
          (may_write (st.made old).devices (st.made old).areas stands.at.logs.volume (last c.register.chain) c.owners.holding (oldest c.register.chain) c.logs c.slots stands.at.volume.rows stands.at.volume.apart sending.alone stands.at.rights stands.at.logs.once live.allowed
          c.owners.leases c.store.writes c.store.told.greatest write stands.at.writes (subst (λ (n : ℕ). LivesIn (last c.register.chain) n) (sym sending.whose) lives_it) sending.relied
          (λ d s content w. subst (λ (n : ℕ). MayTouch (st.made old).devices (st.made old).areas (last c.register.chain) c.owners.holding c.logs c.slots n d s) (sym sending.whose) (may_before d s content w)))

      may : MaySend (st.made old).devices (st.made old).areas (SureBehind o st owners_are (st.made old) new x clocks c then_letters write) (course_then c row.slot to) session write
      may = may_then handed

      own_st : st.own old node ≡ Some session
      own_st = sym (stands.at.parts.own node live.up) ∙ live.own

      -- it is out, the only one of its session
      flying : (runs : List Run) → write.runs ≡ runs → IsFlying session runs (st.out_of new node) (write ∷ c.store.writes)
      flying runs are = record {
        write = write;
        whose = sending.whose;
        runs_are = are;
        once = subst (λ (l : List Run). (d s : ℕ) (content other : List ℕ) → WritesIn l d s content → WritesIn l d s other → other ≡ content) are sending.once;
        is_out = handed.is_out;
        only = λ other has mine. ⊎_elim (λ front. sym front) (λ was. absurd (none_sent other was mine)) (front_or_behind write c.store.writes other has);
      }

      -- what any node reads, it still reads
      reads_on : (reader block : ℕ) → IsBlock (st.made old).areas block → IsUnlogged to.logs block → (i : ℕ) → i < 9 → st.asked old reader ≡ Some (home_of (st.made old).devices block)
          → st.will_read old x c.store reader ((block_place block (st.made old).devices).1 + i) (to.before (block_place block (st.made old).devices).0 ((block_place block (st.made old).devices).1 + i))
          → st.will_read new x (with_write c then_letters write).store reader ((block_place block (st.made old).devices).1 + i) (to.before (block_place block (st.made old).devices).0 ((block_place block (st.made old).devices).1 + i))
      reads_on reader block is unlogged i few asked was =
          let sure = at.logs.homes block is unlogged i few in
          handed.reads reader ((block_place block (st.made old).devices).1 + i) (to.before (block_place block (st.made old).devices).0 ((block_place block (st.made old).devices).1 + i)) (home_of (st.made old).devices block) asked
          (record { each = λ one other has w. by_one sure.only.each one other w (front_or_behind write c.store.writes one has) }) was
        where
          by_one : ((one : Sent) (other : List ℕ) → Contains c.store.writes one → WritesTo one (block_place block (st.made old).devices).0 ((block_place block (st.made old).devices).1 + i) other
              → (other ≡ to.before (block_place block (st.made old).devices).0 ((block_place block (st.made old).devices).1 + i)) ⊎ IsOver c.store.told.greatest one)
              → (one : Sent) (other : List ℕ) → WritesTo one (block_place block (st.made old).devices).0 ((block_place block (st.made old).devices).1 + i) other → (write ≡ one) ⊎ Contains c.store.writes one
              → (other ≡ to.before (block_place block (st.made old).devices).0 ((block_place block (st.made old).devices).1 + i)) ⊎ IsOver c.store.told.greatest one
          by_one each one other w (inl front) = absurd (may.homes block i other is unlogged few (subst (λ (s : Sent). WritesTo s (block_place block (st.made old).devices).0 ((block_place block (st.made old).devices).1 + i) other) (sym front) w))
          by_one each one other w (inr has) = each one other has w

      apart_from : (one d s : ℕ) (content : List ℕ) → one ≢ session → LivesIn (last c.register.chain) one → MayTouch (st.made old).devices (st.made old).areas (last c.register.chain) c.owners.holding c.logs c.slots one d s → WritesTo write d s content → ⊥
      apart_from one d s content ne lives_one touch w =
          touch_clash (st.made old).devices (st.made old).areas stands.at.logs.volume (last c.register.chain) c.owners.holding (oldest c.register.chain) c.logs c.slots stands.at.volume.rows stands.at.volume.apart sending.alone stands.at.rights stands.at.logs.once live.allowed
          one session d s lives_one lives_it ne touch (may_before d s content w)

      sends : (other its_session : ℕ) (its_row : SessionRow) → other ≢ node → its_session ≢ session → row_in (last c.register.chain).sessions its_session ≡ Some its_row → its_row.dead ≡ 0
          → Leaves (st.made old).devices (st.made old).areas (Touches its_session) Sure (SureBy (st.made old)) (st.will_read old x c.store other) (st.will_read new x (with_write c then_letters write).store other) Middle Then other its_session its_row.slot
      sends other its_session its_row ne apart has other_lives = sending_leaves (st.made old).devices (st.made old).areas (Touches its_session) Sure (SureBy (st.made old)) (st.will_read old x c.store other)
          (st.will_read new x (with_write c then_letters write).store other) Middle Then other its_session its_row.slot (record { logs = refl; slots = refl; doubts = refl }) (handed.others other ne) (handed.asked other)
          write (λ e. apart (sym (sym sending.whose ∙ e))) refl
          (λ d s content touch w. apart_from its_session d s content apart (lives_of (last c.register.chain) its_session its_row has other_lives) touch w)
          (λ d s content none sure. surely_on g o st Stands Step register_is owners_are old new x then_known (course_then c row.slot to) next then_letters node session write at handed.stands d s content none sure)
          (λ block mode allows. allows) (λ block unlogged. unlogged) (λ block mode allows unwritten. unwritten)
          (λ block is unlogged i few asked was. reads_on other block is unlogged i few asked was)

      sent : StandsAt g o st Stands Step register_is owners_are new x (known_of g o st Stands Step register_is owners_are new x then_letters clocks later) (with_write (course_then c row.slot to) then_letters write) next
      sent = sent_at g o st Stands Step register_is owners_are old new x then_known (course_then c row.slot to) next then_letters node session write at
          live.up own_st lives_it sending.whose sending.register_keeps sending.owners_keep handed.keeps handed.made handed.own sending.end sending.opened
          may.may
          (λ gone d s its_row content there is_its w inside. may.elsewhere gone d s its_row content (λ is_it. (at.closings gone session there).dead (subst (λ (n : ℕ). LivesIn (last c.register.chain) n) (sym is_it) lives_it)) is_its w inside)
          may.logs

      -- ---- what others recover

      -- the write brings nothing near to what another session may write
      only_on : (asks_device s its_session : ℕ) (content : List ℕ) → ((brings : List ℕ) → WritesTo write asks_device s brings → ⊥) → IsOnly c.store.writes c.store.told.greatest asks_device s content → IsOnly (write ∷ c.store.writes) c.store.told.greatest asks_device s content
      only_on asks_device s its_session content none only = record {
        each = λ one brings has to_it. ⊎_elim
            (λ front. absurd (none brings (subst (λ (w : Sent). WritesTo w asks_device s brings) (sym front) to_it)))
            (λ was. only.each one brings was to_it)
            (front_or_behind write c.store.writes one has);
      }

      none_near : (other its_session : ℕ) (one : MachineView) (its_row : SessionRow) (gone slot d s : ℕ) → its_session ≢ session → IsActive Before other its_session one its_row → slot < 8 → IsEntitled (last c.register.chain) gone slot its_session
          → IsNear (st.made old).devices (st.made old).areas slot (c.logs slot) d s → (brings : List ℕ) → WritesTo write d s brings → ⊥
      none_near other its_session one its_row gone slot d s ne active few claimed near brings w = apart_from its_session d s brings ne (lives_of (last c.register.chain) its_session its_row active.is_row active.lives)
          (near_touches (st.made old).devices (st.made old).areas (last c.register.chain) c.owners.holding c.logs c.slots gone slot its_session d s few claimed near) w

      spares_other : (other its_session : ℕ) (one : MachineView) (its_row : SessionRow) (gone slot : ℕ) → other ≢ node → its_session ≢ session → IsActive Before other its_session one its_row → slot < 8 → IsEntitled (last c.register.chain) gone slot its_session → gone ≢ its_session
          → SparesSlot (st.made old).devices (st.made old).areas Sure (SureBy (st.made old)) (st.will_read old x c.store other) (st.will_read new x (with_write c then_letters write).store other) (around_in Before other) (around_in Then other) its_session slot
      spares_other other its_session one its_row gone slot other_is apart active few claimed ne = record {
        logs = own.logs slot (spared its_session gone slot claimed ne);
        slots = slot_there c.slots row.slot slot to.slot (spared its_session gone slot claimed ne);
        before = λ d s inside. own.elsewhere slot d s (spared its_session gone slot claimed ne) few inside;
        asked = inl (handed.asked other);
        out = inl (handed.others other other_is);
        sent = λ w has its_own. ⊎_elim (λ front. absurd (apart (sym its_own ∙ ap (λ (s : Sent). s.session) (sym front) ∙ sending.whose))) (λ was. was) (front_or_behind write c.store.writes w has);
        sure = λ d s content near is. surely_on g o st Stands Step register_is owners_are old new x then_known (course_then c row.slot to) next then_letters node session write at handed.stands d s content
            (none_near other its_session one its_row gone slot d s apart active few claimed near) is;
        reads = λ asks s content was_asked is near is_sure read. handed.reads other s content asks was_asked
            (only_on asks.device s its_session content (none_near other its_session one its_row gone slot asks.device s apart active few claimed near) is_sure.only) read;
      }

      -- the node itself recovers nothing, and writes nothing where it recovered
      spares_own : (one : MachineView) (gone slot : ℕ) (stage : recover.Stage) → after ≡ one → HasEnded stage ⊎ ((recovery : RecoveryView) × (one.stage ≡ words.Recovers gone recovery)) → slot < 8 → IsEntitled (last c.register.chain) gone slot session → gone ≢ session
          → HasEnded stage × SparesClosed (st.made old).devices (around_in Before node) (around_in Then node) session slot
      spares_own one gone slot stage same of few claimed ne = (
        only_ended one.stage gone stage (subst (λ (m : MachineView). RecoversNone m.stage) same rests_then) of,
        record {
          logs = own.logs slot (spared session gone slot claimed ne);
          slots = ap (λ (l : Slot). l.activity) (slot_there c.slots row.slot slot to.slot (spared session gone slot claimed ne));
          sent = λ w has its_own. ⊎_elim
              (λ front. inr (λ d s content brings inside. may.elsewhere gone d s claimed.row content ne claimed.is (subst (λ (one_is : Sent). WritesTo one_is d s content) (sym front) brings) (subst (λ (n : ℕ). IsOfSlot (st.made old).devices n d s) (sym claimed.at) inside)))
              (λ was. inl was)
              (front_or_behind write c.store.writes w has);
        },
      )

      spares : (other its_session : ℕ) (one before_it : MachineView) (its_row row_was : SessionRow) (gone slot : ℕ) (stage : recover.Stage) → (b : Bool) → eqb other node ≡ b → IsActive Then other its_session one its_row → IsActive Before other its_session before_it row_was
          → HasEnded stage ⊎ ((recovery : RecoveryView) × (one.stage ≡ words.Recovers gone recovery)) → slot < 8 → IsEntitled (last c.register.chain) gone slot its_session → gone ≢ its_session
          → SparesSlot (st.made old).devices (st.made old).areas Sure (SureBy (st.made old)) (st.will_read old x c.store other) (st.will_read new x (with_write c then_letters write).store other) (around_in Before other) (around_in Then other) its_session slot
          ⊎ (HasEnded stage × SparesClosed (st.made old).devices (around_in Before other) (around_in Then other) its_session slot)
      spares other its_session one before_it its_row row_was gone slot stage true is active active_was of few claimed ne =
          let e : node ≡ other = grind (arith, nat_tests, is) in
          let f : its_session ≡ session = one_number its_session session (sym active_was.own ∙ ap (λ (n : ℕ). Before.own n) (sym e) ∙ own_is clocks.down (o.own owners_are) node session live.up live.own) in
          let g_is : after ≡ one = one_machine after one (sym changed.here ∙ ap (λ (n : ℕ). slice_get later n) e ∙ active.there) in
          inr (subst (λ (n : ℕ). HasEnded stage × SparesClosed (st.made old).devices (around_in Before n) (around_in Then n) its_session slot) e
          (subst (λ (n : ℕ). HasEnded stage × SparesClosed (st.made old).devices (around_in Before node) (around_in Then node) n slot) (sym f)
          (spares_own one gone slot stage g_is of few (subst (λ (n : ℕ). IsEntitled (last c.register.chain) gone slot n) f claimed) (λ same. ne (same ∙ sym f)))))
        where
          one_number : (a b : ℕ) → Some a ≡ Some b → a ≡ b
          one_number a b e = cc
      spares other its_session one before_it its_row row_was gone slot stage false differ active active_was of few claimed ne =
          let other_is : other ≢ node = λ e. grind (arith, nat_tests, differ, e) in
          inl (spares_other other its_session before_it row_was gone slot other_is
          (λ same. other_is (stands.single node other session (own_is clocks.down (o.own owners_are) node session live.up live.own) (active_was.own ∙ ap (λ (n : ℕ). Some n) same)))
          active_was few claimed ne)

      recovering_then : AreRecovering (st.made old).devices (st.made old).areas (SureBy (st.made old)) (st.will_read new x (with_write c then_letters write).store) c.register.chain (λ n. c.store.told.knew (Node n)) c.register.proposed Then
      recovering_then = recover_then g o st Stands Step register_is owners_are old x known c tree machines stands.at live.allowed (SureBy (st.made old)) (st.will_read new x (with_write c then_letters write).store) c.register.chain (λ n. c.store.told.knew (Node n))
          c.register.proposed Then stands.recovering (were_active Then refl (λ other. refl) refl) (omega arith) (λ gone few has. has)
          (λ other its_session one was its_row row_was gone slot stage active active_was of few claimed ne. spares other its_session one was its_row row_was gone slot stage (eqb other node) refl active active_was of few claimed ne)
          (claims_stay g o st Stands Step register_is owners_are old x known c tree machines stands.at live.allowed (IsActive Then) (λ n. c.store.told.knew (Node n)) (λ other its_session one its_row active. omega arith))
          (λ other its_session one its_row gone stage active of under_way has. has)

      -- The nodes stand with what came of it, and the write that is out.
      pub sends_on : (((runs : List Run) → write.runs ≡ runs → IsFlying session runs (st.out_of new node) (write ∷ c.store.writes)) → IsAtWork (st.made old).devices (st.made old).areas (SureBy (st.made old)) Then node session row.slot after to.stage)
          → NodesStand g o st Stands Step register_is owners_are new x then_letters clocks later (with_write (course_then c row.slot to) then_letters write) next
      sends_on work = record {
        at = sent;
        about = subst (λ (m : Made). AreAbout m.devices m.areas (SureBy m) (st.will_read new x (with_write c then_letters write).store) (IsOfNode o.by_boot clocks) Then) (sym handed.made) about_then;
        recovering = subst (λ (m : Made). AreRecovering m.devices m.areas (SureBy m) (st.will_read new x (with_write c then_letters write).store) c.register.chain (λ n. c.store.told.knew (Node n)) c.register.proposed Then) (sym handed.made) recovering_then;
        single = stands.single;
        told = stands.told;
        given = given_on machines later (last c.register.chain).next_session node before (machine_then before to) stands.given live.there changed.here refl changed.others;
      }
        where
          about_then : AreAbout (st.made old).devices (st.made old).areas (SureBy (st.made old)) (st.will_read new x (with_write c then_letters write).store) (IsOfNode o.by_boot clocks) Then
          about_then = all_about (SureBy (st.made old)) (st.will_read new x (with_write c then_letters write).store) Then refl (λ other. refl) refl
              (λ other its_row has ne. let left = leaves_slot other its_row has ne in record { logs = left.logs; slots = left.slots; doubts = left.doubts })
              (λ other its_session its_row ne apart has other_lives. leaves_then (st.made old).devices (st.made old).areas (Touches its_session) Sure Sure (SureBy (st.made old)) (st.will_read old x c.store other) (st.will_read old x c.store other)
              (st.will_read new x (with_write c then_letters write).store other) Before Middle Then other its_session its_row.slot (lands other its_session its_row apart has other_lives) (sends other its_session its_row ne apart has other_lives))
              (record {
                is_slot = own.is_slot;
                device = own.device;
                count = own.count;
                work = work flying;
                fetch = fetching (st.made old).devices (st.made old).areas (st.will_read old x c.store node) (st.will_read new x (with_write c then_letters write).store node) Middle Then node session
                    (handed.asked node) before.fetch (λ block mode allows. allows) (λ block unlogged. unlogged) (λ block mode is allows unwritten. unwritten) (λ block is unlogged i few asked was. reads_on node block is unlogged i few asked was) fetch_then;
                unseen = own.unseen;
              })

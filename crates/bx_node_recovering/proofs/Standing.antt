-- The nodes stand where one's recovery begins, goes on or ends.
use Rattle.std.proofs.Common.{◌≡◌, ◌≢◌, ◌⊎◌, ⊎_elim, ◌∙◌, ℕ, ◌<◌, ◌≤◌, Bool, true, false, eqb, List, Contains, Option, Some, None, IsSome, refl, sym, ap, subst, arith}
use Rattle.std.specs.Prelude.{if◌then◌else◌, slice_get}
use Rattle.std.proofs.lemmas.Bool.Decides.{nat_tests}
use Rattle.bx_base.specs.declared.names.Actor.TheVariants.{Node}
use Rattle.bx_disk.specs.Disks.{Disks, Image}
use Rattle.bx_facts.specs.declared.owners.Owners as owners
use Rattle.bx_facts.specs.declared.register.Register as register
use Rattle.bx_facts.specs.declared.store.Store as store
use Rattle.bx_facts.specs.Chains.{HasRow, LivesIn, last, oldest}
use Rattle.bx_facts.specs.Holds.{Hold}
use Rattle.bx_facts.specs.Writes.{Asked, Made, Sent}
use Rattle.bx_node_events.proofs.Acting.{IsChanged, IsLive}
use Rattle.bx_node_machines.specs.Machines as words
use Rattle.bx_node_machines.specs.Machines.{AreAbout, IsFetching, IsUnseen, MachineView, Scene, is_one}
use Rattle.bx_node_machines.specs.Nodes.{IsOfNode, NodesStand, hinted, known_of, nothing_held, scene_of, shown}
use Rattle.bx_node_machines.specs.Recoveries.{AreRecovering, IsFinished, IsUnderWay, SuitsStage}
use Rattle.bx_node_machines.proofs.Going.{IsNear}
use Rattle.bx_node_machines.proofs.Leaving.{given_on}
use Rattle.bx_node_recovering.proofs.Beside as beside
use Rattle.bx_node_recovering.proofs.Beside.{IsInSlot, IsSentBeside, Rests}
use Rattle.bx_node_views.proofs.Touching.{one_home, one_slot, slot_and_home}
use Rattle.bx_places.specs.Places.{IsBlock, IsVolume}
use Rattle.bx_post.specs.declared.packets.Letter.{Letter}
use Rattle.bx_records.specs.Drafts.{Block}
use Rattle.bx_recover.specs.Recovering.{RecoveryView}
use Rattle.bx_rows.specs.declared.session.SessionRow.{SessionRow}
use Rattle.bx_views.specs.Attempts.{Deed}
use Rattle.bx_views.specs.Truths.{Hints, Truth}
use Rattle.bx_volume.specs.Overlay.{IsUnlogged, Logs}
use Rattle.bx_volume.specs.Records.{newest_in}
use Rattle.bx_world_chains.specs.Entitled.{IsEntitled}
use Rattle.bx_world_logs.specs.Logs.{Slot}
use Rattle.bx_world_standing.specs.Parts.{Clocks}
use Rattle.bx_world_standing.specs.Rights.{IsOfHome, IsOfSlot, IsWithin, Surely}
use Rattle.bx_world_standing.specs.Standing.{Course, Known, StandsAt, SureOf}
use Rattle.bx_world_views.specs.Views.{Unacknowledged}

-- ---- what is near to a slot

-- A sector near to a slot is of no other slot, nor of the home of a block that no log has.
module _ (devices areas : ℕ) (volume : IsVolume devices areas) (logs : Logs) (slot : ℕ) (low : slot < 8) (d s : ℕ) (near : IsNear devices areas slot (logs slot) d s) where
  pub near_apart : (other : ℕ) → other ≢ slot → other < 8 → IsOfSlot devices other d s → ⊥
  near_apart other ne few inside = ⊎_elim
      (λ mine. ne (one_slot devices areas volume other slot d s inside mine))
      (λ (home : (block : ℕ) × IsBlock areas block × IsSome (newest_in (logs slot) block) × IsOfHome devices block d s). slot_and_home devices areas volume other home.0 d s few inside home.3)
      near

  pub near_unlogged : (block : ℕ) → IsBlock areas block → IsUnlogged logs block → IsOfHome devices block d s → ⊥
  near_unlogged block is unlogged home = ⊎_elim
      (λ mine. slot_and_home devices areas volume slot block d s low mine home)
      (λ (its : (one : ℕ) × IsBlock areas one × IsSome (newest_in (logs slot) one) × IsOfHome devices one d s).
      let same : its.0 ≡ block = one_home devices areas volume its.0 block d s its.1 is its.3 home in
      none_some (newest_in (logs slot) its.0) (ap (λ (n : ℕ). newest_in (logs slot) n) same ∙ unlogged slot low) its.2)
      near
    where
      none_some : (found : Option Block) → found ≡ None → IsSome found → ⊥
      none_some None is_none some = cc
      none_some (Some one) is_none some = cc

module _ {G O S T : Type 0} (g : register.Ghosts G) (o : owners.Ghosts O) (st : store.Ghosts S) (Stands : Truth → Hints → T → Type 0) (Step_is : T → Deed → T → Type 0)
    (register_is : G) (owners_are : O) (old new : S) (x : Disks) (letters then_letters : List Letter) (clocks : Clocks) (machines later : List MachineView) (c : Course) (tree next : T)
    (node session gone slot : ℕ) (row : SessionRow) (before after : MachineView)
    (stands : NodesStand g o st Stands Step_is register_is owners_are old x letters clocks machines c tree)
    (live : IsLive (o.own owners_are) clocks (last c.register.chain) machines node session row before)
    (changed : IsChanged machines later node after) (claimed : IsEntitled (last c.register.chain) gone slot session) (is_other : gone ≢ session)
    (alone : (one other block : ℕ) (hold : Hold) → LivesIn (last c.register.chain) one → HasRow (last c.register.chain) other → c.owners.holding one block ≡ Some hold → oldest c.register.chain ≤ other)
    (Brings : ℕ → ℕ → Type 0) (sent_then : List Sent) (before_then : Image) (logs_then : Logs) (slots_then : ℕ → Slot) (truth_then : Truth) (doubts_then : ℕ → Option Unacknowledged)
    (in_slot : IsInSlot (st.made old).devices (st.made old).areas c slot gone before_then logs_then slots_then doubts_then) where
  -- what was done then: what the step makes of the course, the letters, and the writes that may be taken
  abbrev pub later_is : Course
  later_is = record c {
    register = record c.register { letters = then_letters };
    owners = record c.owners { told = record c.owners.told { letters = then_letters } };
    store = record c.store { told = record c.store.told { letters = then_letters }; writes = sent_then };
    before = before_then;
    logs = logs_then;
    slots = slots_then;
    truth = truth_then;
    doubts = doubts_then;
  }

  abbrev known : Known
  known = known_of g o st Stands Step_is register_is owners_are old x letters clocks machines

  abbrev Sure : ℕ → ℕ → List ℕ → Type 0
  Sure = SureOf g o st Stands Step_is register_is owners_are old x known c

  abbrev pub SureBy : Made → ℕ → ℕ → List ℕ → Type 0
  SureBy m = Surely (st.stands new x later_is.store) (IsWithin m.devices m.areas c.register.chain c.owners.holding c.owners.floor (IsOfNode o.by_boot clocks) (λ n. c.store.told.knew (Node n))) sent_then c.store.told.greatest

  abbrev pub Then : Scene
  Then = scene_of g o st Stands Step_is register_is owners_are new x clocks.down later later_is

  module _ (brings : IsSentBeside (st.made old).devices (st.made old).areas c session slot Brings sent_then Sure (SureBy (st.made old)))
      (made : st.made new ≡ st.made old)
      (out : (other : ℕ) → other ≢ node → st.out_of new other ≡ st.out_of old other) (asked : (other : ℕ) → other ≢ node → st.asked new other ≡ st.asked old other)
      (reads : (other s : ℕ) (content : List ℕ) (asks : Asked) → other ≢ node → st.asked old other ≡ Some asks → (Brings asks.device s → ⊥) → Sure asks.device s content
      → st.will_read old x c.store other s content → st.will_read new x later_is.store other s content)
      (rests : Rests before.stage) (rests_then : Rests after.stage) (same_log : after.log ≡ before.log) (same_held : after.held ≡ before.held) (same_away : after.away ≡ before.away) (same_hints : after.hints ≡ before.hints)
      (same_mark : after.session ≡ before.session) (quiet : after.stage ≡ words.Idle → st.out_of new node ≡ None)
      (fetches : IsFetching (st.made old).devices (st.made old).areas (st.will_read new x later_is.store node) Then node session after.fetch) (unseen : IsUnseen after.held after.fetch)
      (unfinished : Contains before.finished gone → ⊥) (only : (one : ℕ) → Contains after.finished one → Contains before.finished one ⊎ (one ≡ gone)) (suits : SuitsStage after.stage after.fetch)
      (under_then : (one : ℕ) (recovery : RecoveryView) → after.stage ≡ words.Recovers one recovery
      → IsUnderWay (st.made old).devices (st.made old).areas (SureBy (st.made old)) (st.will_read new x later_is.store) c.register.chain (λ n. c.store.told.knew (Node n)) c.register.proposed Then node session after one recovery)
      (finished_then : Contains after.finished gone
      → IsFinished (st.made old).devices (st.made old).areas (SureBy (st.made old)) (st.will_read new x later_is.store) c.register.chain (λ n. c.store.told.knew (Node n)) c.register.proposed Then node session gone) where
    -- what the nodes show is as it was
    shows : (n : ℕ) (b : Bool) → eqb n node ≡ b → (shown (slice_get machines n) (o.own owners_are n) ≡ shown (slice_get later n) (o.own owners_are n)) × (hinted (slice_get machines n) ≡ hinted (slice_get later n))
    shows n true is =
        let e : n ≡ node = grind (arith, nat_tests, is) in
        let was = ap (λ (k : ℕ). slice_get machines k) e ∙ live.there in
        let now = ap (λ (k : ℕ). slice_get later k) e ∙ changed.here in (
          ap (λ (m : Option MachineView). shown m (o.own owners_are n)) was
              ∙ (λ i. if is_one (sym same_mark i) (o.own owners_are n) then (sym same_held i) else nothing_held)
              ∙ sym (ap (λ (m : Option MachineView). shown m (o.own owners_are n)) now),
          ap hinted was ∙ sym same_hints ∙ sym (ap hinted now),
        )
    shows n false is =
        let same = sym (changed.others n (λ e. grind (arith, nat_tests, is, e))) in
        (ap (λ (m : Option MachineView). shown m (o.own owners_are n)) same, ap hinted same)

    -- The nodes stand then, where the whole does.
    pub stand_beside : StandsAt g o st Stands Step_is register_is owners_are new x (record known { letters = then_letters }) later_is next
        → NodesStand g o st Stands Step_is register_is owners_are new x then_letters clocks later later_is next
    stand_beside at = record {
      at = subst (λ (k : Known). StandsAt g o st Stands Step_is register_is owners_are new x k later_is next)
          (λ i. record { letters = then_letters; clocks = clocks; held = λ n. (shows n (eqb n node) refl).0 i; hints = λ n. (shows n (eqb n node) refl).1 i }) at;
      about = subst (λ (m : Made). AreAbout m.devices m.areas (SureBy m) (st.will_read new x later_is.store) (IsOfNode o.by_boot clocks) Then) (sym made)
          (beside.about_beside g o st Stands Step_is register_is owners_are old x letters clocks machines later c tree node session gone slot row before after stands live changed claimed is_other alone Brings (SureBy (st.made old))
          (st.will_read new x later_is.store) (st.out_of new) (st.asked new) sent_then before_then logs_then slots_then doubts_then in_slot brings out asked reads
          rests rests_then same_log (λ block. ap (λ away. away block) same_away) same_mark quiet fetches unseen);
      recovering = subst (λ (m : Made). AreRecovering m.devices m.areas (SureBy m) (st.will_read new x later_is.store) c.register.chain (λ n. c.store.told.knew (Node n)) c.register.proposed Then) (sym made)
          (beside.recovering_beside g o st Stands Step_is register_is owners_are old x letters clocks machines later c tree node session gone slot row before after stands live changed claimed is_other alone Brings (SureBy (st.made old))
          (st.will_read new x later_is.store) (st.out_of new) (st.asked new) sent_then before_then logs_then slots_then doubts_then in_slot brings out asked reads
          unfinished only suits under_then finished_then);
      single = stands.single;
      told = stands.told;
      given = given_on machines later (last c.register.chain).next_session node before after stands.given live.there changed.here same_mark changed.others;
    }

-- A register was handed an input, so letters are under way and its disk is another; it may have decided a change that was proposed. All but its own past stands.
use Rattle.std.proofs.Common.{◌≡◌, inr, ℕ, ◌+◌, ◌<◌, ◌≤◌, List, Contains, Some, refl, sym, subst, arith}
use Rattle.std.specs.Prelude.{slice_get}
use Rattle.bx_base.specs.declared.names.Actor.{Actor}
use Rattle.bx_base.specs.declared.names.Actor.TheVariants.{Node}
use Rattle.bx_disk.specs.Disks.{Disks}
use Rattle.bx_facts.specs.declared.register.Register as register
use Rattle.bx_facts.specs.declared.store.Store as store
use Rattle.bx_facts.specs.Chains.{AreLegal, HasRow, IsOwnersOwn, IsStoresOwn, LivesIn, last, oldest}
use Rattle.bx_facts.specs.Holds.{Hold, OwnersPast, owners_grown}
use Rattle.bx_facts.specs.Writes.{GoesOn, StorePast, store_grown}
use Rattle.bx_global.specs.declared.change.Change.{Change}
use Rattle.bx_global.specs.Table.{IsLegal}
use Rattle.bx_node_events.proofs.Grown as growing
use Rattle.bx_node_events.proofs.Passing as passing
use Rattle.bx_node_events.proofs.Taken.{loose, loosen}
use Rattle.bx_node_machines.specs.Machines.{AreAbout, MachineView}
use Rattle.bx_node_machines.specs.Recoveries.{AreRecovering}
use Rattle.bx_node_machines.specs.Nodes.{IsOfNode, NodesStand, known_of, scene_of}
use Rattle.bx_facts.specs.declared.owners.Owners as owners
use Rattle.bx_post.specs.declared.packets.Letter.{Letter}
use Rattle.bx_views.specs.Attempts.{Deed}
use Rattle.bx_views.specs.Truths.{Hints, Truth}
use Rattle.bx_world_chains.specs.Entitled.{AreAllowed}
use Rattle.bx_world_standing.specs.Labels.{LabelsStand}
use Rattle.bx_world_standing.specs.Parts.{Clocks}
use Rattle.bx_world_standing.specs.Standing.{Course, StandsAt, SureOf}
use Rattle.bx_world_standing.proofs.Grows.{grown_course, grows}
use Rattle.bx_world_stops.proofs.Restarted.{remains}
use Rattle.bx_world_views.specs.Views.{AreApart}

-- the course with these letters under way
abbrev pub lettered : Course → List Letter → Course
lettered c letters = record c {
  register = record c.register { letters = letters };
  owners = record c.owners { told = record c.owners.told { letters = letters } };
  store = record c.store { told = record c.store.told { letters = letters } };
}

module _ {G O S T : Type 0} (g : register.Ghosts G) (o : owners.Ghosts O) (st : store.Ghosts S) (Stands : Truth → Hints → T → Type 0) (Step : T → Deed → T → Type 0)
    (register_is register_heard : G) (owners_are : O) (store_is : S) (x y : Disks) (letters heard_letters : List Letter) (clocks : Clocks) (machines : List MachineView) (c : Course) (tree : T)
    (stands : NodesStand g o st Stands Step register_is owners_are store_is x letters clocks machines c tree)
    (allowed : AreAllowed c.register.chain) (legal : AreLegal c.register.chain.first c.register.chain.changes)
    (rises : (who : Actor) → (g.knows register_is who).index ≤ (g.knows register_heard who).index)
    (owners_lose : o.keeps owners_are (lettered c heard_letters).owners) (store_there : st.keeps store_is y (lettered c heard_letters).store)
    (goes : GoesOn c.store.writes c.store.told.greatest (st.asked store_is) (st.settled store_is x c.store) (st.settled store_is y (lettered c heard_letters).store)
    (st.will_read store_is x c.store) (st.will_read store_is y (lettered c heard_letters).store) (st.stands store_is x c.store) (st.stands store_is y (lettered c heard_letters).store))
    (labels : LabelsStand (st.made store_is) y)
    (lives : (session end : ℕ) → Contains c.owners.leases (session, end) → c.owners.told.greatest ≤ end + 500 → LivesIn (last c.register.chain) session)
    (alone : (one other block : ℕ) (hold : Hold) → LivesIn (last c.register.chain) one → HasRow (last c.register.chain) other → c.owners.holding one block ≡ Some hold → oldest c.register.chain ≤ other) where
  -- Nothing was decided.
  pub still_at : StandsAt (loose g) o st Stands Step register_heard owners_are store_is y (known_of (loose g) o st Stands Step register_heard owners_are store_is y heard_letters clocks machines) (lettered c heard_letters) tree
  still_at = remains (loose g) o st Stands Step register_heard owners_are store_is x y (known_of g o st Stands Step register_is owners_are store_is x letters clocks machines) c tree heard_letters
      (loosen g o st Stands Step register_is register_heard owners_are store_is x (known_of g o st Stands Step register_is owners_are store_is x letters clocks machines) c tree rises stands.at)
      tt owners_lose store_there goes.standing labels

  pub still_about : AreAbout (st.made store_is).devices (st.made store_is).areas (SureOf (loose g) o st Stands Step register_heard owners_are store_is y (known_of (loose g) o st Stands Step register_heard owners_are store_is y heard_letters clocks machines) (lettered c heard_letters))
      (st.will_read store_is y (lettered c heard_letters).store) (IsOfNode o.by_boot clocks) (scene_of (loose g) o st Stands Step register_heard owners_are store_is y clocks.down machines (lettered c heard_letters))
  still_about = passing.about_passes (loose g) o st Stands Step register_heard register_heard owners_are owners_are store_is store_is x y letters heard_letters clocks clocks machines c tree
      (lettered c heard_letters).register (lettered c heard_letters).owners (lettered c heard_letters).store
      (loosen g o st Stands Step register_is register_heard owners_are store_is x (known_of g o st Stands Step register_is owners_are store_is x letters clocks machines) c tree rises stands.at)
      stands.about stands.recovering stands.given allowed legal still_at refl (λ gone by there. there)
      (record { each = λ session block hold is. is }) (λ block. omega arith) (λ write has. has) (omega arith) (λ node its row is alive of. (of, omega arith)) goes.standing
      (λ node its s content asks own is still only was. goes.reading node s content asks is only was)
      (λ node its row is alive of own. own) (λ node its own apart. absurd (apart own)) (λ node its own. inr refl) (λ node its own. inr refl)
      (λ node write own out none live. absurd (let wrong = out in let no = none in cc))
      lives alone

  pub still_recovering : AreRecovering (st.made store_is).devices (st.made store_is).areas (SureOf (loose g) o st Stands Step register_heard owners_are store_is y (known_of (loose g) o st Stands Step register_heard owners_are store_is y heard_letters clocks machines) (lettered c heard_letters))
      (st.will_read store_is y (lettered c heard_letters).store) c.register.chain (λ n. c.store.told.knew (Node n)) c.register.proposed (scene_of (loose g) o st Stands Step register_heard owners_are store_is y clocks.down machines (lettered c heard_letters))
  still_recovering = passing.recovering_passes (loose g) o st Stands Step register_heard register_heard owners_are owners_are store_is store_is x y letters heard_letters clocks clocks machines c tree
      (lettered c heard_letters).register (lettered c heard_letters).owners (lettered c heard_letters).store
      (loosen g o st Stands Step register_is register_heard owners_are store_is x (known_of g o st Stands Step register_is owners_are store_is x letters clocks machines) c tree rises stands.at)
      stands.about stands.recovering stands.given allowed legal still_at refl (λ gone by there. there)
      (record { each = λ session block hold is. is }) (λ block. omega arith) (λ write has. has) (omega arith) (λ node its row is alive of. (of, omega arith)) goes.standing
      (λ node its s content asks own is still only was. goes.reading node s content asks is only was)
      (λ node its row is alive of own. own) (λ node its own apart. absurd (apart own)) (λ node its own. inr refl) (λ node its own. inr refl)
      (λ node write own out none live. absurd (let wrong = out in let no = none in cc))
      lives alone

  -- A change was decided that was proposed.
  module _ (change : Change) (proposed : Contains c.register.proposed change) (law : IsLegal (last c.register.chain) change)
      (owners_grow : (past : OwnersPast) (change : Change) → o.keeps owners_are past → IsLegal (last past.told.chain) change → IsOwnersOwn past.told.handed change → o.keeps owners_are (owners_grown past change))
      (owners_apart : (past : OwnersPast) → o.keeps owners_are past → AreApart past.holding (HasRow (last past.told.chain)))
      (store_grows : (past : StorePast) (change : Change) → st.keeps store_is y past → IsLegal (last past.told.chain) change → IsStoresOwn past.told.handed change
      → st.keeps store_is y (store_grown past change) × GoesOn past.writes past.told.greatest (st.asked store_is) (st.settled store_is y past) (st.settled store_is y (store_grown past change))
      (st.will_read store_is y past) (st.will_read store_is y (store_grown past change)) (st.stands store_is y past) (st.stands store_is y (store_grown past change))) where
    abbrev pub grown_is : Course
    grown_is = grown_course (lettered c heard_letters) change

    pub grown_at : StandsAt (loose g) o st Stands Step register_heard owners_are store_is y (known_of (loose g) o st Stands Step register_heard owners_are store_is y heard_letters clocks machines) grown_is tree
    grown_at = grows (loose g) o st Stands Step owners_are store_is y owners_grow owners_apart (λ past one keeps legal_one own. let k = store_grows past one keeps legal_one own in (k.0, k.1.standing))
        register_heard register_heard (known_of (loose g) o st Stands Step register_heard owners_are store_is y heard_letters clocks machines) (lettered c heard_letters) tree change still_at allowed proposed law tt (λ who. omega arith)

    store_goes : GoesOn c.store.writes c.store.told.greatest (st.asked store_is) (st.settled store_is y (lettered c heard_letters).store) (st.settled store_is y grown_is.store)
        (st.will_read store_is y (lettered c heard_letters).store) (st.will_read store_is y grown_is.store) (st.stands store_is y (lettered c heard_letters).store) (st.stands store_is y grown_is.store)
    store_goes = (store_grows (lettered c heard_letters).store change still_at.parts.store_keeps (subst (λ chain. IsLegal (last chain) change) (sym still_at.pasts.store_chain) law) (still_at.pasts.proposed change proposed).1).1

    pub grown_about : AreAbout (st.made store_is).devices (st.made store_is).areas (SureOf (loose g) o st Stands Step register_heard owners_are store_is y (known_of (loose g) o st Stands Step register_heard owners_are store_is y heard_letters clocks machines) grown_is)
        (st.will_read store_is y grown_is.store) (IsOfNode o.by_boot clocks) (scene_of (loose g) o st Stands Step register_heard owners_are store_is y clocks.down machines grown_is)
    grown_about = growing.about_grown (loose g) o st Stands Step register_heard register_heard owners_are store_is y heard_letters clocks machines (lettered c heard_letters) tree change still_at still_about still_recovering stands.given allowed proposed law store_goes

    pub grown_recovering : AreRecovering (st.made store_is).devices (st.made store_is).areas (SureOf (loose g) o st Stands Step register_heard owners_are store_is y (known_of (loose g) o st Stands Step register_heard owners_are store_is y heard_letters clocks machines) grown_is)
        (st.will_read store_is y grown_is.store) grown_is.register.chain (λ n. grown_is.store.told.knew (Node n)) grown_is.register.proposed (scene_of (loose g) o st Stands Step register_heard owners_are store_is y clocks.down machines grown_is)
    grown_recovering = growing.recovering_grown (loose g) o st Stands Step register_heard register_heard owners_are store_is y heard_letters clocks machines (lettered c heard_letters) tree change still_at still_about still_recovering stands.given allowed proposed law store_goes

    pub grown_given : (node its : ℕ) (machine : MachineView) → slice_get machines node ≡ Some machine → machine.session ≡ Some its → its < (last grown_is.register.chain).next_session
    grown_given = growing.given_grown (loose g) o st Stands Step register_heard register_heard owners_are store_is y heard_letters clocks machines (lettered c heard_letters) tree change still_at still_about still_recovering stands.given allowed proposed law store_goes

-- How the nodes of a cluster stand while a machine is to stop.
use Rattle.std.specs.Prelude.{◌≡◌, ◌≢◌, ℕ, ◌<◌, ◌≤◌, List, Some, slice_get}
use Rattle.bx_base.specs.declared.names.Actor.{Actor}
use Rattle.bx_base.specs.declared.names.Actor.TheVariants.{Node}
use Rattle.bx_disk.specs.Disks.{Disks}
use Rattle.bx_facts.specs.declared.register.Register as register
use Rattle.bx_facts.specs.declared.store.Store as store
use Rattle.bx_facts.specs.Chains.{last}
use Rattle.bx_node_machines.specs.Machines.{AreAbout, MachineView}
use Rattle.bx_node_machines.specs.Recoveries.{AreRecovering}
use Rattle.bx_node_machines.specs.Nodes.{IsOfNode, known_of, scene_of}
use Rattle.bx_facts.specs.declared.owners.Owners as owners
use Rattle.bx_post.specs.declared.packets.Letter.{Letter}
use Rattle.bx_views.specs.Attempts.{Deed}
use Rattle.bx_views.specs.Truths.{Hints, Truth}
use Rattle.bx_node_views.specs.bx_world_standing.specs.Parts.{Clocks}
use Rattle.bx_node_views.specs.bx_world_standing.specs.Standing.{Course, StandsAt, SureOf, own_up}

module _ {G O S T : Type 0} (g : register.Ghosts G) (o : owners.Ghosts O) (st : store.Ghosts S) (Stands : Truth → Hints → T → Type 0) (Step : T → Deed → T → Type 0)
    (register_is : G) (owners_are : O) (store_is : S) (x : Disks) where
  -- The nodes stand, but that the register of one machine may know more than the machine was handed: a fault came between.
  pub record StandsBut (who : Actor) (letters : List Letter) (clocks : Clocks) (machines : List MachineView) (c : Course) (tree : T) : Type 0 where
    pub at : StandsAt g o st Stands Step register_is owners_are store_is x (known_of g o st Stands Step register_is owners_are store_is x letters clocks machines) c tree
    pub about : AreAbout (st.made store_is).devices (st.made store_is).areas (SureOf g o st Stands Step register_is owners_are store_is x (known_of g o st Stands Step register_is owners_are store_is x letters clocks machines) c)
        (st.will_read store_is x c.store) (IsOfNode o.by_boot clocks) (scene_of g o st Stands Step register_is owners_are store_is x clocks.down machines c)
    pub recovering : AreRecovering (st.made store_is).devices (st.made store_is).areas (SureOf g o st Stands Step register_is owners_are store_is x (known_of g o st Stands Step register_is owners_are store_is x letters clocks machines) c) (st.will_read store_is x c.store)
        c.register.chain (λ node. c.store.told.knew (Node node)) c.register.proposed (scene_of g o st Stands Step register_is owners_are store_is x clocks.down machines c)
    pub single : (node other session : ℕ) → own_up clocks.down (o.own owners_are) node ≡ Some session → own_up clocks.down (o.own owners_are) other ≡ Some session → other ≡ node
    pub told : (node session : ℕ) → who ≢ Node node → own_up clocks.down (o.own owners_are) node ≡ Some session → (g.knows register_is (Node node)).index ≤ c.store.told.knew (Node node)
    pub given : (node session : ℕ) (machine : MachineView) → slice_get machines node ≡ Some machine → machine.session ≡ Some session → session < (last c.register.chain).next_session

-- How the nodes of a cluster stand, with all else.
use Rattle.std.specs.Prelude.{◌≡◌, ℕ, ◌<◌, ◌≤◌, Bool, if◌then◌else◌, List, Option, Some, None, slice_get}
use Rattle.bx_base.specs.declared.names.Actor.{Actor}
use Rattle.bx_base.specs.declared.names.Actor.TheVariants.{Node}
use Rattle.bx_disk.specs.Disks.{Disks}
use Rattle.bx_facts.specs.declared.register.Register as register
use Rattle.bx_facts.specs.declared.store.Store as store
use Rattle.bx_facts.specs.Chains.{last}
use Rattle.bx_node_machines.specs.Machines.{AreAbout, MachineView, Scene, is_one}
use Rattle.bx_node_machines.specs.Recoveries.{AreRecovering}
use Rattle.bx_facts.specs.declared.owners.Owners as owners
use Rattle.bx_post.specs.declared.packets.Letter.{Letter}
use Rattle.bx_views.specs.Attempts.{Deed}
use Rattle.bx_views.specs.Truths.{Held, Hints, Truth, no_hints}
use Rattle.bx_node_views.specs.bx_world_standing.specs.Parts.{Clocks}
pub use Rattle.bx_node_views.specs.bx_world_standing.specs.Sessions.{IsOfNode}
use Rattle.bx_node_views.specs.bx_world_standing.specs.Standing.{Course, Known, StandsAt, SureOf, own_up}

-- What a node shows: nothing, where its session isn't the one that it has its blocks under; and hints, whatever the session.
abbrev pub nothing_held : Held
nothing_held at mode = None

abbrev pub shown : Option MachineView → Option ℕ → Held
shown None own = nothing_held
shown (Some machine) own = if is_one machine.session own then machine.held else nothing_held

abbrev pub hinted : Option MachineView → Hints
hinted None = no_hints
hinted (Some machine) = machine.hints

module _ {G O S T : Type 0} (g : register.Ghosts G) (o : owners.Ghosts O) (st : store.Ghosts S) (Stands : Truth → Hints → T → Type 0) (Step : T → Deed → T → Type 0)
    (register_is : G) (owners_are : O) (store_is : S) (x : Disks) where
  -- what is known besides, where these letters are under way and the nodes are these
  abbrev pub known_of : List Letter → Clocks → List MachineView → Known
  known_of letters clocks machines = record {
    letters = letters;
    clocks = clocks;
    held = λ node. shown (slice_get machines node) (o.own owners_are node);
    hints = λ node. hinted (slice_get machines node);
  }

  abbrev pub scene_of : (Actor → Bool) → List MachineView → Course → Scene
  scene_of down machines c = record {
    machines = slice_get machines;
    own = own_up down (o.own owners_are);
    rows = (last c.register.chain).sessions;
    out = st.out_of store_is;
    asked = st.asked store_is;
    holding = c.owners.holding;
    sent = c.store.writes;
    before = c.before;
    logs = c.logs;
    slots = c.slots;
    doubts = c.doubts;
  }

  -- The cluster stands, with what the nodes' caches show; each node is about what its session has under way, and recovers what it recovers; no session is the own one of two nodes that are up; each that has one
  -- was handed what its register knows; and under a session that wasn't given out yet no node has anything.
  pub record NodesStand (letters : List Letter) (clocks : Clocks) (machines : List MachineView) (c : Course) (tree : T) : Type 0 where
    pub at : StandsAt g o st Stands Step register_is owners_are store_is x (known_of letters clocks machines) c tree
    pub about : AreAbout (st.made store_is).devices (st.made store_is).areas (SureOf g o st Stands Step register_is owners_are store_is x (known_of letters clocks machines) c) (st.will_read store_is x c.store) (IsOfNode o.by_boot clocks) (scene_of clocks.down machines c)
    pub recovering : AreRecovering (st.made store_is).devices (st.made store_is).areas (SureOf g o st Stands Step register_is owners_are store_is x (known_of letters clocks machines) c) (st.will_read store_is x c.store)
        c.register.chain (λ node. c.store.told.knew (Node node)) c.register.proposed (scene_of clocks.down machines c)
    pub single : (node other session : ℕ) → own_up clocks.down (o.own owners_are) node ≡ Some session → own_up clocks.down (o.own owners_are) other ≡ Some session → other ≡ node
    pub told : (node session : ℕ) → own_up clocks.down (o.own owners_are) node ≡ Some session → (g.knows register_is (Node node)).index ≤ c.store.told.knew (Node node)
    pub given : (node session : ℕ) (machine : MachineView) → slice_get machines node ≡ Some machine → machine.session ≡ Some session → session < (last c.register.chain).next_session

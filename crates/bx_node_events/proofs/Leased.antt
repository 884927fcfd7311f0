-- A node's lease is relied on: the nodes stand.
use Rattle.std.proofs.Common.{ℕ, List}
use Rattle.bx_disk.specs.Disks.{Disks}
use Rattle.bx_facts.specs.declared.register.Register as register
use Rattle.bx_facts.specs.declared.store.Store as store
use Rattle.bx_facts.specs.Holds.{leased}
use Rattle.bx_facts.proofs.Lists.{behind}
use Rattle.bx_node_machines.specs.Machines.{MachineView}
use Rattle.bx_node_machines.specs.Nodes.{NodesStand}
use Rattle.bx_facts.specs.declared.owners.Owners as owners
use Rattle.bx_post.specs.declared.packets.Letter.{Letter}
use Rattle.bx_views.specs.Attempts.{Deed}
use Rattle.bx_views.specs.Truths.{Hints, Truth}
use Rattle.bx_world_standing.specs.Parts.{Clocks}
use Rattle.bx_world_standing.specs.Standing.{Course}

-- the course with an end that was given for a session
abbrev pub leased_course : Course → ℕ → ℕ → Course
leased_course c session end = record c { owners = leased c.owners session end }

module _ {G O S T : Type 0} (g : register.Ghosts G) (o : owners.Ghosts O) (st : store.Ghosts S) (Stands : Truth → Hints → T → Type 0) (Step : T → Deed → T → Type 0)
    (register_is : G) (owners_are : O) (store_is : S) (x : Disks) (letters : List Letter) (clocks : Clocks) (machines : List MachineView) (c : Course) (tree : T) (session end : ℕ) where
  pub leased_at : NodesStand g o st Stands Step register_is owners_are store_is x letters clocks machines c tree → o.keeps owners_are (leased c.owners session end)
      → NodesStand g o st Stands Step register_is owners_are store_is x letters clocks machines (leased_course c session end) tree
  leased_at stands keeps = record {
    at = record {
      pasts = record {
        owners_chain = stands.at.pasts.owners_chain;
        store_chain = stands.at.pasts.store_chain;
        letters = stands.at.pasts.letters;
        owners_letters = stands.at.pasts.owners_letters;
        store_letters = stands.at.pasts.store_letters;
        down = stands.at.pasts.down;
        owners_down = stands.at.pasts.owners_down;
        store_down = stands.at.pasts.store_down;
        boots = stands.at.pasts.boots;
        owners_most = stands.at.pasts.owners_most;
        store_most = stands.at.pasts.store_most;
        owners_boots = stands.at.pasts.owners_boots;
        store_boots = stands.at.pasts.store_boots;
        own_boots = stands.at.pasts.own_boots;
        next_boots = stands.at.pasts.next_boots;
        proposed = stands.at.pasts.proposed;
        owners_greatest = stands.at.pasts.owners_greatest;
        greatest = stands.at.pasts.greatest;
      };
      parts = record {
        register_keeps = stands.at.parts.register_keeps;
        owners_keep = keeps;
        store_keeps = stands.at.parts.store_keeps;
        owners_knew = stands.at.parts.owners_knew;
        store_knew = stands.at.parts.store_knew;
        same_boots = stands.at.parts.same_boots;
        own = stands.at.parts.own;
      };
      labels = stands.at.labels;
      sessions = stands.at.sessions;
      logs = stands.at.logs;
      rights = stands.at.rights;
      writes = record {
        ends = λ write has. let was = stands.at.writes.ends write has in (was.0, behind (session, end) c.owners.leases (write.session, was.0) was.1, was.2);
        given = stands.at.writes.given;
        may = stands.at.writes.may;
      };
      closings = stands.at.closings;
      volume = stands.at.volume;
      doubted = stands.at.doubted;
    };
    about = stands.about;
    recovering = stands.recovering;
    single = stands.single;
    told = stands.told;
    given = stands.given;
  }

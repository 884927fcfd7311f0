-- Calls are answered over what stands.
use Rattle.std.proofs.Common.{inl, ◌≡◌, ℕ, List, Option, refl, sym, subst}
use Rattle.bx_disk.specs.Disks.{Disks}
use Rattle.bx_facts.specs.declared.register.Register as register
use Rattle.bx_facts.specs.declared.store.Store as store
use Rattle.bx_node_events.proofs.Works.{keeps_all, leaves_kept}
use Rattle.bx_node_machines.specs.Machines.{MachineView}
use Rattle.bx_node_machines.specs.Nodes.{NodesStand}
use Rattle.bx_node_machines.proofs.Showing.{answered}
use Rattle.bx_node_tries.specs.Tries.{LedTo}
use Rattle.bx_node_tries.specs.declared.round.Said.{Said}
use Rattle.bx_nodes.specs.Turns.{Turned}
use Rattle.bx_facts.specs.declared.owners.Owners as owners
use Rattle.bx_post.specs.declared.packets.Letter.{Letter}
use Rattle.bx_views.specs.Attempts.{Deed}
use Rattle.bx_views.specs.Truths.{Hints, Truth}
use Rattle.bx_world_standing.specs.Parts.{Clocks}
use Rattle.bx_world_standing.specs.Standing.{Course}

module _ {G O S T : Type 0} (g : register.Ghosts G) (o : owners.Ghosts O) (st : store.Ghosts S) (Stands : Truth → Hints → T → Type 0) (Step : T → Deed → T → Type 0)
    (register_is : G) (owners_are : O) (store_is : S) (x : Disks) where
  -- The answers lead to a next tree, for which all stands.
  pub turned : {own : Option ℕ} (letters : List Letter) (clocks : Clocks) (old new : List MachineView) (c : Course) (tree : T) (free : ℕ) (said : List Said) → new ≡ old
      → NodesStand g o st Stands Step register_is owners_are store_is x letters clocks old c tree → LedTo Stands Step free c.truth tree said
      → Turned own Step (NodesStand g o st Stands Step register_is owners_are store_is x letters clocks new) c tree said
  turned letters clocks old new c tree free said same stands led = record {
    later = c;
    next = led.last;
    leads = led.leads;
    chain = refl;
    logged = λ slot one has. inl has;
    works = leaves_kept _ c c (keeps_all c);
    stands = subst (λ (machines : List MachineView). NodesStand g o st Stands Step register_is owners_are store_is x letters clocks machines c led.last) (sym same)
        (answered g o st Stands Step register_is owners_are store_is x letters clocks old c tree led.last led.all stands);
  }

-- What a cluster begins with: parts that are new, and nodes that have nothing.
use Rattle.std.specs.Prelude.{◌≡◌, ℕ, ◌+◌, ◌≤◌, true, false, List, [], None, Some, slice_get}
use Rattle.bx_base.specs.declared.names.Actor.{Actor}
use Rattle.bx_disk.specs.Disks.{Disks}
use Rattle.bx_facts.specs.declared.register.Register as register
use Rattle.bx_facts.specs.declared.store.Store as store
use Rattle.bx_facts.specs.Chains.{IsAboveBoots}
use Rattle.bx_facts.specs.Pasts.{found_register, opening_register}
use Rattle.bx_facts.specs.Writes.{NamesUpTo}
use Rattle.bx_global.specs.Allowed.{IsAllowed}
use Rattle.bx_global.specs.declared.state.GlobalState.{GlobalState}
use Rattle.bx_node_machines.specs.Machines.{MachineView}
use Rattle.bx_facts.specs.declared.owners.Owners as owners
use Rattle.bx_views.specs.Truths.{no_hints}
use Rattle.bx_world_stays.specs.bx_world_standing.specs.Parts.{Clocks}

-- with a new volume all machines are up, in their first boot, and no clock was read
abbrev pub opening_clocks : Clocks
opening_clocks = record { down = λ who. false; boots = λ who. 0; most = 0; greatest = 0 }

-- with one that is found all are down; this is the greatest boot on its disks
abbrev pub found_clocks : ℕ → Clocks
found_clocks boot = record { down = λ who. true; boots = λ who. boot; most = boot; greatest = 0 }

-- No node has anything: a session, or hints.
pub record HaveNothing (machines : List MachineView) : Type 0 where
  pub unmarked : (node : ℕ) (machine : MachineView) → slice_get machines node ≡ Some machine → machine.session ≡ None
  pub unhinted : (node : ℕ) (machine : MachineView) → slice_get machines node ≡ Some machine → machine.hints ≡ no_hints

module _ {G O S : Type 0} (g : register.Ghosts G) (o : owners.Ghosts O) (st : store.Ghosts S) (register_is : G) (owners_are : O) (store_is : S) (x : Disks) where
  -- Of a new volume: the disks of replicas were formatted with a state, in which no device names a boot, and each machine knows it. Owners and store are new, and made for it
  -- and for the same nodes; nobody else has a session.
  pub record AreNew (s : GlobalState) : Type 0 where
    pub register_keeps : g.keeps register_is x (opening_register s)
    pub knows : (who : Actor) → g.knows register_is who ≡ s
    pub owners_new : o.is_new owners_are
    pub owners_for : o.is_for owners_are (st.made store_is).nodes s
    pub store_new : st.is_new store_is
    pub store_for : st.is_for store_is s
    pub same_boots : o.by_boot ≡ st.by_boot
    pub no_owner : (node : ℕ) → (st.made store_is).nodes ≤ node → o.own owners_are node ≡ None
    pub no_writer : (node : ℕ) → (st.made store_is).nodes ≤ node → st.own store_is node ≡ None
    pub allowed : IsAllowed s
    pub names : NamesUpTo 0 s

  -- Of a volume that is found: the disks of replicas tell a state, and this is the greatest boot on them. Owners and store are new, made for a state without sessions; each
  -- machine's part is its own.
  pub record AreFound (first s : GlobalState) (boot : ℕ) : Type 0 where
    pub register_keeps : g.keeps register_is x (found_register s boot)
    pub owners_new : o.is_new owners_are
    pub owners_apart : o.is_separate
    pub owners_for : o.is_for owners_are (st.made store_is).nodes first
    pub store_new : st.is_new store_is
    pub store_apart : st.is_separate
    pub store_for : st.is_for store_is first
    pub no_sessions : first.sessions ≡ []
    pub same_boots : o.by_boot ≡ st.by_boot
    pub allowed : IsAllowed s
    pub names : NamesUpTo boot s
    pub boots : ∥ IsAboveBoots s (boot + 1) ∥₁

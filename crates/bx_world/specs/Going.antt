-- How a world goes on where one of its machines hears something.
use Rattle.std.specs.Prelude.{◌≡◌, ◌⊎◌, ℕ, List, [], length, Option}
use Rattle.bx_base.specs.declared.names.Actor.{Actor}
use Rattle.bx_cluster.specs.declared.outcome.Outcome.{Outcome}
use Rattle.bx_disk.specs.Disks.{Disks}
use Rattle.bx_facts.specs.declared.register.Register as register
use Rattle.bx_facts.specs.declared.store.Store as store
use Rattle.bx_world_machines.specs.bx_node_calls.specs.Turns.{Rounded}
use Rattle.bx_node_tries.specs.declared.round.Said.{Said}
use Rattle.bx_world_machines.specs.bx_nodes.specs.Stopping.{Empties}
use Rattle.bx_facts.specs.declared.owners.Owners as owners
use Rattle.bx_views.specs.declared.engine.Engine as engine
use Rattle.bx_world.specs.Outcomes.{IsBy, desks_said, desks_without, outcome_said, stopped_at}
use Rattle.bx_world.specs.World.{StandsBehind, StandsBy}
use Rattle.bx_world.specs.declared.world.World.{World}
use Rattle.bx_world_machines.specs.Answering.{Answered}
use Rattle.bx_world_standing.specs.Standing.{Course}

module _ {G O S E T : Type 0} (g : register.Ghosts G) (o : owners.Ghosts O) (st : store.Ghosts S) (e : engine.Ghosts E T) where
  -- A machine heard something, at a reading of its clock or at none, and answered calls, which are told and which its desk keeps; the answers lead from each tree that stood to one that stands.
  pub record Says (reading : Option ℕ) (at : Actor) (old new : World G O S E T) (Tells : Type 0) (x y : Disks) (outcome : Outcome) : Type 0 where
    pub said : List Said
    pub by : IsBy (length old.desks.items) at said
    pub outcome_is : outcome ≡ outcome_said at said
    pub answers : Answered reading at old.machines.nodes.machines.items new.machines.nodes.machines.items said
    pub desks : new.desks.items ≡ desks_said at said old.desks.items
    pub latest : new.machines.latest ≡ old.machines.latest
    pub engine : new.machines.nodes.engine ≡ old.machines.nodes.engine
    pub leads : Tells → (tree : T) (c : Course) → StandsBy g o st e c old x tree → Rounded e old.machines.nodes.engine (StandsBehind g o st e c said new y) tree said

  -- A disk failed, and the machine stopped: a node has nothing then, and its desk is cleared; the tree that stood stands.
  pub record Stops (at : Actor) (old new : World G O S E T) (Tells : Type 0) (x y : Disks) (outcome : Outcome) : Type 0 where
    pub outcome_is : outcome ≡ stopped_at at
    pub empties : Empties at old.machines.nodes.machines.items new.machines.nodes.machines.items
    pub desks : new.desks.items ≡ desks_without at old.desks.items
    pub latest : new.machines.latest ≡ old.machines.latest
    pub engine : new.machines.nodes.engine ≡ old.machines.nodes.engine
    pub stands : Tells → (tree : T) (c : Course) → StandsBy g o st e c old x tree → StandsBehind g o st e c [] new y tree

  abbrev pub Went : Option ℕ → Actor → World G O S E T → World G O S E T → Type 0 → Disks → Disks → Outcome → Type 0
  Went reading at old new Tells x y outcome = Says reading at old new Tells x y outcome ⊎ Stops at old new Tells x y outcome

-- What leads to a world that holds a file tree.
use Rattle.std.specs.Prelude.{◌≡◌, List}
use Rattle.bx_cluster.specs.Runs.{Account, StepOf}
use Rattle.bx_cluster.specs.bx_model.specs.declared.tree.Tree.{Tree}
use Rattle.bx_disk.specs.Disks.{Disks}
use Rattle.bx_facts.specs.declared.owners.Owners as owners
use Rattle.bx_facts.specs.declared.register.Register as register
use Rattle.bx_facts.specs.declared.store.Store as store
use Rattle.bx_history.specs.Parts.{Part}
use Rattle.bx_views.specs.declared.engine.Engine as engine
use Rattle.bx_world.specs.Led.{Led}
use Rattle.bx_world.specs.declared.world.World.{World}

module _ {G O S E : Type 0} (g : register.Ghosts G) (o : owners.Ghosts O) (st : store.Ghosts S) (e : engine.Ghosts E Tree) where
  -- These parts lead to it from a file tree of the volume, with as many areas, that its store is made for.
  pub record LedFrom (world : World G O S E Tree) (x : Disks) (first : Tree) (parts : List Part) : Type 0 where
    pub led : Led g o st e world x first parts
    pub volume : (st.made world.machines.nodes.store).volume ≡ first.volume
    pub areas : (st.made world.machines.nodes.store).areas ≡ first.areas

  -- They spell one history, which leads from that tree.
  pub accounts : (world : World G O S E Tree) (x : Disks) (first : Tree) (parts : List Part) → LedFrom world x first parts → Account (StepOf (e.step world.machines.nodes.engine)) (e.at_once world.machines.nodes.engine) first parts
  accounts world x first parts from = record { last = from.led.tree; history = from.led.history; accounts = from.led.accounts }

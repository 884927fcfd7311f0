-- The world that the program runs: three replicas agree, lock servers own blocks, devices are mirrored, and the engine is that of file trees.
use Rattle.std.specs.Prelude.{◌≡◌, ℕ, List}
use Rattle.bx_devices.specs.contracts.store.DevicesStore.TheImpl as devices
use Rattle.bx_disk.specs.Disks.{Disks}
use Rattle.bx_engine.specs.contracts.engine.BoxFsEngine.TheImpl as box_fs
use Rattle.bx_facts.specs.Writes.{Made}
use Rattle.bx_history.specs.Parts.{Part}
use Rattle.bx_locks.specs.contracts.owners.LocksOwners.TheImpl as locks
use Rattle.bx_model.specs.declared.tree.Tree.{Tree}
use Rattle.bx_paxos_cluster.specs.contracts.register.PaxosRegister.TheImpl as paxos
use Rattle.bx_world.specs.Led.{Led}
use Rattle.bx_world.specs.declared.world.World.{World}

abbrev pub Boxes : Type 0
Boxes = World paxos.self_type locks.self_type devices.self_type box_fs.self_type Tree

-- these parts led to it from that tree
abbrev pub LedTo : Boxes → Disks → Tree → List Part → Type 0
LedTo world x first parts = Led paxos.ghosts locks.ghosts devices.ghosts box_fs.ghosts world x first parts

-- what its devices are made for, and which calls its nodes answer at once
abbrev pub made_in : Boxes → Made
made_in world = devices.ghosts.made world.machines.nodes.store

abbrev pub answers_at_once : Boxes → List ℕ → Type 0
answers_at_once world bytes = box_fs.ghosts.at_once world.machines.nodes.engine bytes

-- Its disks are those of a volume with the number that the tree has, and as many areas.
pub record IsOfVolume (world : Boxes) (tree : Tree) : Type 0 where
  pub volume : (made_in world).volume ≡ tree.volume
  pub areas : (made_in world).areas ≡ tree.areas

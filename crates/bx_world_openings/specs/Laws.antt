-- Once what is unsure was lost, the disks show the tree to which a run leads, or one to which calls in doubt lead.
use Rattle.std.specs.Prelude.{List}
use Rattle.bx_closings.proofs.Closes as shown
use Rattle.bx_closings.specs.Boxes.{Boxes, answers_at_once}
use Rattle.bx_closings.specs.bx_cluster.specs.Closing.{Closes, IsCrashed}
use Rattle.bx_closings.specs.bx_cluster.specs.Runs.{StepOf}
use Rattle.bx_closings.specs.bx_devices.specs.contracts.store.DevicesStore.TheImpl as devices
use Rattle.bx_closings.specs.bx_engine.specs.contracts.engine.BoxFsEngine.TheImpl as box_fs
use Rattle.bx_closings.specs.bx_locks.specs.contracts.owners.LocksOwners.TheImpl as locks
use Rattle.bx_closings.specs.bx_opens.specs.Opening.{AreOpenAlone}
use Rattle.bx_closings.specs.bx_paxos_cluster.specs.contracts.register.PaxosRegister.TheImpl as paxos
use Rattle.bx_closings.specs.bx_rack_audit.specs.Alone.{StandAlone}
use Rattle.bx_closings.specs.bx_world.specs.Trees.{LedFrom}
use Rattle.bx_disk.specs.Disks.{Disks}
use Rattle.bx_history.specs.Parts.{Part}
use Rattle.bx_model.specs.declared.tree.Tree.{Tree}
use Rattle.bx_steps.specs.Steps.{StepOfTree}

pub closes : (world : Boxes) (x y : Disks) (first : Tree) (parts : List Part) → LedFrom paxos.ghosts locks.ghosts devices.ghosts box_fs.ghosts world x first parts → IsCrashed x y
    → Closes (StepOf StepOfTree) (answers_at_once world) (StandAlone y) (AreOpenAlone y) first parts
closes world x y first parts from crashed = shown.closes world x y first parts from.led crashed from.volume from.areas from.led.doubted from.led.logged

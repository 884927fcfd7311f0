-- What the disks of a cluster show behind its run, once what was unsure on them was lost: where three replicas agree, devices are mirrored, and the engine is that of file trees.
use Rattle.std.proofs.Common.{◌≡◌, ℕ, List, length, sym, ◌∙◌, ap, subst}
use Rattle.bx_closings.proofs.Closing as closing
use Rattle.bx_closings.proofs.Own.{apart, is_own, labelled_one, labelled_other, labels_then, next_count, own_reads, state_count}
use Rattle.bx_closings.proofs.Trees.{Same, leads_same}
use Rattle.bx_closings.specs.Boxes.{Boxes, LedTo, made_in}
use Rattle.bx_cluster.specs.Closing.{Closes, IsCrashed}
use Rattle.bx_cluster.specs.Runs.{StepOf}
use Rattle.bx_devices.specs.Laws.{grows, labelled, settled_is, settles}
use Rattle.bx_devices.specs.contracts.store.DevicesStore.TheImpl as devices
use Rattle.bx_disk.specs.Disks.{Disks}
use Rattle.bx_engine.specs.contracts.engine.BoxFsEngine.TheImpl as box_fs
use Rattle.bx_facts.specs.Chains.{Chain, last}
use Rattle.bx_facts.specs.Writes.{IsOfStore, Made}
use Rattle.bx_global.specs.declared.state.GlobalState.{GlobalState}
use Rattle.bx_history.specs.Parts.{Part}
use Rattle.bx_locks.specs.contracts.owners.LocksOwners.TheImpl as locks
use Rattle.bx_model.specs.declared.tree.Tree.{Tree}
use Rattle.bx_opens.specs.Opening.{AreOpenAlone}
use Rattle.bx_paxos_cluster.specs.Laws.{allowed, reads_next, reads_one, reads_some}
use Rattle.bx_paxos_cluster.specs.contracts.register.PaxosRegister.TheImpl as paxos
use Rattle.bx_paxos_found.specs.bx_paxos.specs.Reading.{ReadsState}
use Rattle.bx_paxos_machines.specs.Keeps.{Keeps}
use Rattle.bx_rack_audit.specs.Alone.{StandAlone}
use Rattle.bx_steps.specs.Steps.{StandsWith, StepOfTree}
use Rattle.bx_truth.specs.Stands.{StandsFor}
use Rattle.bx_views.specs.Truths.{no_hints}
use Rattle.bx_world.specs.Doubts.{AreOfTaken, HavePoints}
use Rattle.bx_world_standing.specs.Standing.{Course}
use Rattle.bx_world_volumes.proofs.Volumes.{AreStoreLaws, AreTrees}

module _ (world : Boxes) (x y : Disks) (first : Tree) (parts : List Part) (led : LedTo world x first parts) (crashed : IsCrashed x y) where
  abbrev course : Course
  course = led.stands.course

  abbrev at_last : GlobalState
  at_last = last course.register.chain

  abbrev made : Made
  made = made_in world

  keeps : Keeps world.machines.nodes.register x course.register
  keeps = led.stands.stands.at.parts.register_keeps

  laws : AreStoreLaws x made (devices.ghosts.keeps world.machines.nodes.store x) (devices.ghosts.stands world.machines.nodes.store x) (devices.ghosts.settled world.machines.nodes.store x)
  laws = record {
    settles = λ past d s content index. settles world.machines.nodes.store x past d s content index;
    settled_is = λ past d s content. settled_is world.machines.nodes.store x past d s content;
    grows = λ past change kept legal own. let it = grows world.machines.nodes.store x past change kept legal own in (it.0, it.1.standing);
    labelled = λ past. labelled world.machines.nodes.store x past;
  }

  -- ---- how many devices there are

  of_store : IsOfStore made x at_last
  of_store = subst (λ (chain : Chain). IsOfStore made x (last chain)) led.stands.stands.at.pasts.store_chain (laws.labelled course.store led.stands.stands.at.parts.store_keeps)

  same_devices : length world.machines.nodes.register.made.devices ≡ made.devices
  same_devices = sym keeps.is.devices ∙ ap (λ (s : GlobalState). length s.devices) (sym keeps.fits.first) ∙ ap (λ (chain : Chain). length chain.first.devices) keeps.fits.chain
      ∙ sym (state_count course.register.chain.first course.register.chain.changes) ∙ of_store.devices

  -- ---- the state that the cells tell

  some : (s : GlobalState) × ReadsState world.machines.nodes.register.made x.sizes y.reads s
  some = reads_some world.machines.nodes.register x course.register y.reads (labels_then made x y crashed led.stands.stands.at.labels).one (labels_then made x y crashed led.stands.stands.at.labels).other keeps crashed.left
      (apart made x y crashed led.stands.stands.at.labels world.machines.nodes.register.made same_devices)
      (labelled_one made x y crashed led.stands.stands.at.labels world.machines.nodes.register.made same_devices) (labelled_other made x y crashed led.stands.stands.at.labels world.machines.nodes.register.made same_devices)

  as_many : length some.0.devices ≡ made.devices
  as_many = next_count course.register.proposed at_last some.0 (reads_next world.machines.nodes.register x course.register y.reads some.0 keeps crashed.left some.1) ∙ of_store.devices

  -- ---- trees of the volume

  module _ (volume : (made_in world).volume ≡ first.volume) (areas : (made_in world).areas ≡ first.areas) where
    goes : Same first led.tree
    goes = leads_same first led.history led.tree led.accounts.leads

    stood : StandsWith world.machines.nodes.engine.volume world.machines.nodes.engine.areas course.truth no_hints led.tree
    stood = led.stands.stands.at.volume.is

    same_areas : world.machines.nodes.engine.areas ≡ made.areas
    same_areas = sym stood.stands.is.areas_are ∙ goes.areas ∙ sym areas

    same_volume : world.machines.nodes.engine.volume ≡ made.volume
    same_volume = sym stood.stands.volume_is ∙ goes.volume ∙ sym volume

    trees : AreTrees (box_fs.ghosts.stands world.machines.nodes.engine) made.areas made.volume
    trees = record {
      each = λ truth tree stands. (subst (λ (n : ℕ). StandsFor n truth tree) same_areas stands.stands.is, stands.stands.file_tree, stands.stands.volume_is ∙ same_volume);
    }

    -- They show the tree that the run leads to, or that after some of the calls in doubt, of which the records are open, and no others.
    pub closes : AreOfTaken parts at_last.sessions course.slots course.doubts → HavePoints parts course.logs
        → Closes (StepOf StepOfTree) (box_fs.ghosts.at_once world.machines.nodes.engine) (StandAlone y) (AreOpenAlone y) first parts
    closes of_taken have = closing.closes paxos.ghosts locks.ghosts devices.ghosts box_fs.ghosts world x y first parts led of_taken have laws
        (record { each = λ s place. allowed world.machines.nodes.register x course.register s keeps place })
        (λ s is. reads_next world.machines.nodes.register x course.register y.reads s keeps crashed.left is)
        (λ s other is also. reads_one world.machines.nodes.register.made x.sizes y.reads s other is also)
        trees crashed
        (own_reads made x y crashed led.stands.stands.at.labels world.machines.nodes.register.made same_devices)
        some.0 (is_own made x y crashed led.stands.stands.at.labels world.machines.nodes.register.made same_devices some.0 as_many some.1)

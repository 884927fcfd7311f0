-- What images show of a world that stands behind the parts of a run.
use Rattle.std.proofs.Common.{◌≡◌, ◌∙◌, ℕ, List, [], ◌++◌, sym, ap, subst}
use Rattle.std.proofs.lemmas.List.{append-nil}
use Rattle.bx_calls.specs.Calls.{LeavesOnly}
use Rattle.bx_calls.specs.Laws.{leaves_implies}
use Rattle.bx_disk.specs.Disks.{Disks, Image}
use Rattle.bx_facts.specs.declared.owners.Owners as owners
use Rattle.bx_facts.specs.declared.register.Register as register
use Rattle.bx_facts.specs.declared.store.Store as store
use Rattle.bx_history.specs.Parts.{Part}
use Rattle.bx_world_machines.specs.bx_nodes.specs.Standing.{Stand}
use Rattle.bx_world_machines.specs.bx_nodes.specs.bx_node_events.proofs.Registered.{HandedLaws}
use Rattle.bx_world_machines.specs.bx_nodes.specs.bx_world_volumes.specs.Left.{MayShow}
use Rattle.bx_post.specs.declared.packets.Letter.{Letter}
use Rattle.bx_views.specs.declared.engine.Engine as engine
use Rattle.bx_world.specs.Laws.{shown_from}
use Rattle.bx_world.specs.Led.{Led}
use Rattle.bx_world.specs.Shown.{Shown}
use Rattle.bx_world.specs.declared.world.World.{World}
use Rattle.bx_world_machines.specs.Standing.{Standing}
use Rattle.bx_world_machines.specs.declared.machines.Machines.{Machines}

module _ {G O S E T : Type 0} (g : register.Ghosts G) (o : owners.Ghosts O) (st : store.Ghosts S) (e : engine.Ghosts E T) where
  -- with nothing in the box
  abbrev pub with_box : (machines : Machines G O S E T) (letters box : List Letter) (x : Disks) (tree : T) → box ≡ [] → Standing g o st e machines letters x tree → Standing g o st e machines (letters ++ box) x tree
  with_box machines letters box x tree empty standing = record {
    clocks = standing.clocks;
    course = standing.course;
    are_clocks = standing.are_clocks;
    stands = subst (λ (l : List Letter). Stand g o st e machines.nodes x l standing.clocks standing.course tree) (sym (ap (λ (l : List Letter). letters ++ l) empty ∙ append-nil letters)) standing.stands;
    came = standing.came;
    doubts = standing.doubts;
    known = standing.known;
  }

  -- An image that a crash may leave inside an event shows the tree, or one after some of the calls in doubt.
  pub left_shown : HandedLaws g o st → (world : World G O S E T) (x : Disks) (first : T) (parts : List Part) (led : Led g o st e world x first parts) → (before now : ℕ) (past since : ℕ → Image → Type 0)
      → LeavesOnly before now past since (MayShow (g.reads_as (g.made world.machines.nodes.register) x.sizes) (st.made world.machines.nodes.store) x.sizes led.stands.course)
      → LeavesOnly before now past since (λ image. Shown g o st e world x.sizes image first parts)
  left_shown laws world x first parts led before now past since left = leaves_implies before now past since _ _ left (λ image shows. shown_from g o st e laws world x first parts led image shows)

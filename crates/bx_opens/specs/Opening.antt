-- How the cluster of a volume begins, and what its disks tell then.
use Rattle.std.specs.Prelude.{◌≡◌, ℕ, ◌≤◌, false, List, []}
use Rattle.bx_audit.specs.Audited.{AreOpen}
use Rattle.bx_base.specs.declared.names.Actor.{Actor}
use Rattle.bx_base.specs.declared.names.Point.{Point}
use Rattle.bx_disk.specs.Disks.{Disks}
use Rattle.bx_global.specs.declared.state.GlobalState.{GlobalState}
use Rattle.bx_model.specs.declared.tree.Tree.{Tree}
use Rattle.bx_model.specs.Opening.{opening}
use Rattle.bx_opens.specs.declared.opens.Shape.{Shape}
use Rattle.bx_rack_audit.specs.Alone.{IsOwnState}
use Rattle.bx_world_events.specs.Causes.{IsThere}
use Rattle.bx_world_events.specs.Refusals.{Seen}

-- a cluster may have so many nodes, devices and areas
pub record IsShape (shape : Shape) : Type 0 where
  pub some_nodes : 1 ≤ shape.nodes
  pub few_nodes : shape.nodes ≤ 4
  pub some_devices : 1 ≤ shape.devices
  pub few_devices : shape.devices ≤ 4
  pub some_areas : 1 ≤ shape.areas
  pub few_areas : shape.areas ≤ 64

-- the tree that a volume with so many areas begins with
abbrev pub first_tree : ℕ → ℕ → Tree
first_tree volume areas = record (opening volume) { areas = areas }

-- What a cluster shows where nothing happened yet: all its machines are up, and nothing was sent.
pub record IsNew (shape : Shape) (seen : Seen) : Type 0 where
  pub nodes : seen.nodes ≡ shape.nodes
  pub devices : seen.devices ≡ shape.devices
  pub post : seen.post ≡ []
  pub greatest : seen.greatest ≡ 0
  pub up : (who : Actor) → IsThere seen who → seen.down who ≡ false

-- the points of the records that are open, in the state that the disks' own cells tell
pub record AreOpenAlone (disks : Disks) (points : List Point) : Type 0 where
  pub state : GlobalState
  pub is_state : IsOwnState disks.sizes disks.reads state
  pub are_open : AreOpen disks state points

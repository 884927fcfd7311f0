-- What lets machines start again, whatever happened; and what a world needs of a rack.
use Rattle.std.specs.Prelude.{◌≡◌, ◌≤◌, ◌<◌, ℕ, true, List, Some}
use Rattle.bx_base.specs.declared.names.Actor.TheVariants.{Node}
use Rattle.bx_facts.specs.Chains.{HasOwnBoot, last}
use Rattle.bx_facts.specs.Holds.{OwnersPast}
use Rattle.bx_facts.specs.declared.owners.Owners as owners
use Rattle.bx_facts.specs.declared.register.Register as register
use Rattle.bx_facts.specs.declared.store.Store as store
use Rattle.bx_rows.specs.Words.{row_in}
use Rattle.bx_rows.specs.declared.session.SessionRow.{SessionRow}
use Rattle.bx_views.specs.declared.engine.Engine as engine
use Rattle.bx_world.specs.World.{IsReady}
use Rattle.bx_world.specs.declared.world.World.{World}

-- Owners and store let machines start again: each machine's part is its own, sessions go by boots, and each boot with which a node may start next is above those of its sessions.
pub record LetRestart {O S : Type 0} (o : owners.Ghosts O) (st : store.Ghosts S) : Type 0 where
  pub by : o.by_boot ≡ true
  pub separate : o.is_separate × st.is_separate
  pub above : (one : O) (past : OwnersPast) (boot session : ℕ) (row : SessionRow) → o.keeps one past → row_in (last past.told.chain).sessions session ≡ Some row → past.told.boots (Node row.node) < boot
      → HasOwnBoot past.told.chain boot → row.boot < boot

-- A world over disks of these sizes: it is ready, its machines may start again, and no machine started more often than events started something.
pub record HasRoom {G O S E T : Type 0} (g : register.Ghosts G) (o : owners.Ghosts O) (st : store.Ghosts S) (e : engine.Ghosts E T) (world : World G O S E T) (sizes : List ℕ) : Type 0 where
  pub ready : IsReady g o st e world sizes
  pub restarts : LetRestart o st
  pub boots : world.machines.boots ≤ world.events

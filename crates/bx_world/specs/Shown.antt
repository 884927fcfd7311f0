-- What an image of the disks of a world may show.
use Rattle.std.specs.Prelude.{◌≡◌, ℕ, true, List, Option, Some}
use Rattle.bx_cluster.specs.Runs.{StepOf, rules}
use Rattle.bx_disk.specs.Disks.{Image}
use Rattle.bx_facts.specs.declared.owners.Owners as owners
use Rattle.bx_facts.specs.declared.register.Register as register
use Rattle.bx_facts.specs.declared.store.Store as store
use Rattle.bx_history.specs.Account.{AwaitsNewest}
use Rattle.bx_history.specs.Parts.{Part, waiting}
use Rattle.bx_history.specs.Trace as traces
use Rattle.bx_world_machines.specs.bx_nodes.specs.bx_world_volumes.specs.Left.{HasTruth, IsOf}
use Rattle.bx_rows.specs.Words.{row_in}
use Rattle.bx_rows.specs.declared.session.SessionRow.{SessionRow}
use Rattle.bx_views.specs.Attempts.{Deed}
use Rattle.bx_views.specs.Truths.{Hints, Truth, no_hints}
use Rattle.bx_views.specs.declared.engine.Engine as engine
use Rattle.bx_world.specs.Doubts.{AreOfTaken}
use Rattle.bx_world.specs.declared.world.World.{World}
use Rattle.bx_world_standing.specs.bx_world_logs.specs.Logs.{Slot, opens}
use Rattle.bx_world_standing.specs.bx_world_views.specs.Views as views
use Rattle.bx_world_standing.specs.bx_world_views.specs.Views.{Unacknowledged}

-- A tree comes after one by what some of the records in doubt do whose gates may be open: they were sent.
pub data ComesAfter {T : Type 0} (Stands : Truth → Hints → T → Type 0) (Step : T → Deed → T → Type 0) (rows : List SessionRow) (slots : ℕ → Slot) (doubts : ℕ → Option Unacknowledged) (tree : T) : T → Type 0 where
  Here : ComesAfter Stands Step rows slots doubts tree tree
  Then : (session : ℕ) (row : SessionRow) (doubt : Unacknowledged) (middle after : T) → row_in rows session ≡ Some row → opens (slots row.slot).activity ≡ true → doubts session ≡ Some doubt
      → ComesAfter Stands Step rows slots doubts tree middle → views.StepOf Stands Step doubt.act middle after → ComesAfter Stands Step rows slots doubts tree after

module _ {G O S E T : Type 0} (g : register.Ghosts G) (o : owners.Ghosts O) (st : store.Ghosts S) (e : engine.Ghosts E T) where
  -- An image of disks of these sizes has a truth that stands for the tree which the history of these parts leads to from the first, or for one after some of the calls in doubt: those that
  -- were taken and have no point. It has it in each state that it is read as, whichever source member a sector is read from.
  pub record ShowsTrees (world : World G O S E T) (sizes : List ℕ) (image : Image) (first : T) (parts : List Part) : Type 0 where
    pub tree : T
    pub history : List traces.Entry
    pub accounts : AwaitsNewest (StepOf (e.step world.machines.nodes.engine)) (rules (e.at_once world.machines.nodes.engine)) first parts history tree (waiting parts)
    pub rows : List SessionRow
    pub slots : ℕ → Slot
    pub doubts : ℕ → Option Unacknowledged
    pub doubted : AreOfTaken parts rows slots doubts
    pub has : HasTruth (g.reads_as (g.made world.machines.nodes.register) sizes image) (st.made world.machines.nodes.store) sizes image
        (λ truth. (after : T) × ComesAfter (e.stands world.machines.nodes.engine) (e.step world.machines.nodes.engine) rows slots doubts tree after × e.stands world.machines.nodes.engine truth no_hints after)

  -- so does each image of 512-byte sectors
  abbrev pub Shown : World G O S E T → List ℕ → Image → T → List Part → Type 0
  Shown world sizes image first parts = IsOf sizes image → ShowsTrees world sizes image first parts

-- What the disks of a rack tell of themselves: the state that the cells of their replicas tell, and the file tree that they stand for in it.
use Rattle.std.specs.Prelude.{◌≡◌, ◌⊎◌, ℕ, List, length}
use Rattle.bx_audit.specs.Audited.{IsListed, IsAuditRefusal}
use Rattle.bx_audit.specs.declared.listing.Listing.{Listing}
use Rattle.bx_disk.specs.Disks.{Disks, Image}
use Rattle.bx_global.specs.declared.state.GlobalState.{GlobalState}
use Rattle.bx_layout.specs.declared.label.Label.{Label}
use Rattle.bx_model.specs.declared.tree.Tree.{Tree}
use Rattle.bx_overlay.specs.Refusals.{HasNoLabel}
use Rattle.bx_overlay.specs.declared.error.AuditError.{AuditError}
use Rattle.bx_overlay.specs.declared.error.AuditError.TheVariants.{NoLabel, NoMajority}
use Rattle.bx_paxos_found.specs.bx_paxos.specs.Reading.{ReadsState}
use Rattle.bx_paxos_found.specs.Finding.{LackMajority}
use Rattle.bx_volume.specs.Images.{ImageStandsFor, IsFirstLabel}

-- The cells of the replicas tell this state, which has as many devices as the first label says.
pub record IsOwnState (sizes : List ℕ) (image : Image) (state : GlobalState) : Type 0 where
  pub first : Label
  pub is_first : IsFirstLabel sizes image first
  pub devices : length state.devices ≡ first.devices
  pub reads : ReadsState state sizes image state

-- as they read, the disks stand for the tree, in the state that their own cells tell
abbrev pub StandAlone : Disks → Tree → Type 0
StandAlone disks tree = ImageStandsFor disks.sizes (IsOwnState disks.sizes) disks.reads tree

-- Two replicas of the volume that the first label is of aren't labelled, or have no cell that can be read.
pub record LackState (disks : Disks) : Type 0 where
  pub first : Label
  pub is_first : IsFirstLabel disks.sizes disks.reads first
  pub lack : LackMajority first.devices disks.sizes disks.reads

-- The cells tell a state, in which this is what the disks stand for.
pub record IsListedAlone (disks : Disks) (listed : Listing) : Type 0 where
  pub state : GlobalState
  pub is_state : IsOwnState disks.sizes disks.reads state
  pub is_listed : IsListed disks state listed

-- The cells tell a state, in which the disks are refused for this.
pub record IsRefusedIn (disks : Disks) (error : AuditError) : Type 0 where
  pub state : GlobalState
  pub is_state : IsOwnState disks.sizes disks.reads state
  pub refusal : IsAuditRefusal disks state error

-- why a rack is refused: no disk has a label, which is told of disk 0; or else its cells tell no state; or else it is refused in that state
abbrev pub RefusesAlone : Disks → AuditError → Type 0
RefusesAlone disks error = ((error ≡ NoLabel 0) × HasNoLabel disks) ⊎ (((error ≡ NoMajority) × LackState disks) ⊎ IsRefusedIn disks error)

-- the rack is refused for this, and stands for no file tree
pub record IsRefusedAlone (disks : Disks) (error : AuditError) : Type 0 where
  pub why : RefusesAlone disks error
  pub none : (tree : Tree) → StandAlone disks tree → ⊥

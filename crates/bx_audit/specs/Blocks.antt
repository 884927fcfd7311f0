-- What the blocks of a volume stand for, as they are read.
use Rattle.std.specs.Prelude.{◌≡◌, ◌⊎◌, ℕ}
use Rattle.bx_audit_owners.specs.Whole.{IsTreeTorn}
use Rattle.bx_audit_pages.specs.declared.error.AuditError.{AuditError as TreeError}
use Rattle.bx_audit_pages.specs.declared.error.AuditError.TheVariants.{Torn as TornTree, Fault as TreeFault, OutOfMemory as OutOfTreeMemory}
use Rattle.bx_disk.specs.Disks.{Disks}
use Rattle.bx_homes.specs.Slots.{AreBlocks, HasHandle, IsFirstFault, wanted_handle}
use Rattle.bx_layout.specs.declared.block.Block.{Block}
use Rattle.bx_model.specs.declared.tree.Tree.{Tree}
use Rattle.bx_model.specs.FileTrees.{IsFileTree}
use Rattle.bx_overlay.specs.declared.error.AuditError.{AuditError}
use Rattle.bx_overlay.specs.declared.error.AuditError.TheVariants.{DiskFault, Torn, OutOfMemory}
use Rattle.bx_overlay.specs.declared.volume_disks.VolumeDisks.{VolumeDisks}
use Rattle.bx_logs.specs.Members.{held_by}
use Rattle.bx_overlay.specs.Over.{StandsOver}
use Rattle.bx_truth.specs.Chunks.{IsChunked}
use Rattle.bx_truth.specs.Stands.{StandsFor}
use Rattle.bx_views.specs.Truths.{Truth}

-- how an audit fails, where what is read of trees does
abbrev pub error_of : TreeError → AuditError
error_of (TornTree block found wanted) = Torn block found wanted
error_of TreeFault = DiskFault
error_of OutOfTreeMemory = OutOfMemory

-- the block with a number: that of a log that was read, or else the one in its home
abbrev pub blocks_of : Disks → VolumeDisks → ℕ → Block → Type 0
blocks_of disks read = StandsOver (held_by disks.reads read.members) read.members.devices read.newest

-- no truth with these blocks stands for a file tree
abbrev pub StandForNoTree : ℕ → (ℕ → Block → Type 0) → Type 0
StandForNoTree areas stands = (truth : Truth) → AreBlocks areas stands truth → (tree : Tree) → StandsFor areas truth tree → IsFileTree tree → ⊥

-- The first block that isn't as the slots ask is told of: found by the handle in its header, 0 where no block is there; the handle of its
-- slot is wanted, 0 where that isn't in use.
pub record IsFirstWrong (areas : ℕ) (stands : ℕ → Block → Type 0) (error : AuditError) : Type 0 where
  pub at : ℕ
  pub found : ℕ
  pub wanted : ℕ
  pub error_is : error ≡ Torn at found wanted
  pub found_is : HasHandle stands at found
  pub wanted_is : (truth : Truth) → AreBlocks areas stands truth → wanted ≡ wanted_handle truth at
  pub first : (truth : Truth) → AreBlocks areas stands truth → IsFirstFault areas truth at

-- Slots are right, and what the walk from the root doesn't meet isn't as it should be.
pub record IsWrongInside (areas : ℕ) (stands : ℕ → Block → Type 0) (error : AuditError) : Type 0 where
  pub at : ℕ
  pub found : ℕ
  pub wanted : ℕ
  pub error_is : error ≡ Torn at found wanted
  pub truth : Truth
  pub blocks : AreBlocks areas stands truth
  pub chunked : IsChunked areas truth
  pub torn : IsTreeTorn areas truth at found wanted

abbrev pub IsTornBlock : ℕ → (ℕ → Block → Type 0) → AuditError → Type 0
IsTornBlock areas stands error = IsFirstWrong areas stands error ⊎ IsWrongInside areas stands error

-- What the walk from the root says of the blocks of a volume.
use Rattle.std.specs.Prelude.{◌≡◌, ◌⊎◌, ℕ}
use Rattle.bx_audit_links.specs.Right.{IsToBlame}
use Rattle.bx_audit_owners.specs.Holding.{Holdings}
use Rattle.bx_audit_owners.specs.Walks.{IsWalked, IsWrongMet}
use Rattle.bx_audit_owners.specs.Words.{AreWorded, IsFirstWrongAt, IsMetChunk}
use Rattle.bx_audit_owners.specs.bx_audit_slots.specs.Numbers.{IsToldOf}
use Rattle.bx_audit_pages.specs.Shown.{Shows}
use Rattle.bx_layout.specs.declared.block.Block.{Block}
use Rattle.bx_model.specs.declared.tree.Tree.{Tree}
use Rattle.bx_model.specs.FileTrees.{IsFileTree}
use Rattle.bx_overlay.specs.declared.error.AuditError.{AuditError}
use Rattle.bx_overlay.specs.declared.error.AuditError.TheVariants.{Torn}
use Rattle.bx_truth.specs.PageTrees.{Chunks}

-- each handle names the block of its slot in whose header it is, if there is one
abbrev pub AreHeaded : ℕ → (ℕ → Block → Type 0) → Chunks → Type 0
AreHeaded areas stands chunks = Shows (Unit {0}) areas stands chunks

-- The walk from the root meets a chunk that is wrong, or that two owners have, and that one is told of: its handle is wanted.
pub record IsWrongChunk (areas : ℕ) (stands : ℕ → Block → Type 0) (error : AuditError) : Type 0 where
  pub at : ℕ
  pub found : ℕ
  pub wanted : ℕ
  pub error_is : error ≡ Torn at found wanted
  pub told : IsToldOf areas stands wanted at found
  pub wrong : (chunks : Chunks) → AreHeaded areas stands chunks → IsWrongMet chunks wanted

-- A file is to blame for files that are no file tree, and is told of: its handle is wanted.
pub record NamesFile (areas : ℕ) (stands : ℕ → Block → Type 0) (tree : Tree) (error : AuditError) : Type 0 where
  pub handle : ℕ
  pub blame : IsToBlame tree handle
  pub at : ℕ
  pub found : ℕ
  pub error_is : error ≡ Torn at found handle
  pub told : IsToldOf areas stands handle at found

-- The files of this tree are those that the walk from the root meets: where an entry names a file, one is there, and no chunk has two owners.
pub record AreMet (areas : ℕ) (stands : ℕ → Block → Type 0) (tree : Tree) : Type 0 where
  pub holdings : Holdings
  pub walked : (chunks : Chunks) → AreHeaded areas stands chunks → IsWalked chunks holdings tree.files

-- The slot of a chunk that has a holder isn't as that chunk asks, and this is told: the first such chunk, in the order of their handles, by its
-- own handle; or the own block of its area, where that is none.
pub record TellsSlot (areas : ℕ) (stands : ℕ → Block → Type 0) (holdings : Holdings) (error : AuditError) : Type 0 where
  pub at : ℕ
  pub found : ℕ
  pub wanted : ℕ
  pub error_is : error ≡ Torn at found wanted
  pub torn : IsFirstWrongAt areas stands holdings at found wanted

-- The chunks that the walk from the root meets are as they should be, and the slot of one isn't as that asks: its word, or its mark.
pub record IsWrongSlot (areas : ℕ) (stands : ℕ → Block → Type 0) (error : AuditError) : Type 0 where
  pub tree : Tree
  pub met : AreMet areas stands tree
  pub tells : TellsSlot areas stands met.holdings error
  pub is_met : (chunks : Chunks) → AreHeaded areas stands chunks → IsMetChunk chunks tells.torn.handle

-- These chunks and their slots are as they should be, but the files are no file tree, and one that is to blame is told of.
pub record IsWrongLink (areas : ℕ) (stands : ℕ → Block → Type 0) (error : AuditError) : Type 0 where
  pub tree : Tree
  pub met : AreMet areas stands tree
  pub words : AreWorded areas stands met.holdings
  pub none : IsFileTree tree → ⊥
  pub names : NamesFile areas stands tree error

-- Something that the walk from the root meets is wrong: a chunk, or else a chunk's slot, or else links or parents.
abbrev pub IsWrongFromRoot : ℕ → (ℕ → Block → Type 0) → AuditError → Type 0
IsWrongFromRoot areas stands error = IsWrongChunk areas stands error ⊎ (IsWrongSlot areas stands error ⊎ IsWrongLink areas stands error)

-- Nothing that the walk from the root meets is wrong: the files that it meets are a file tree, and the slots of its chunks are as these ask.
pub record IsRightFromRoot (areas : ℕ) (stands : ℕ → Block → Type 0) : Type 0 where
  pub tree : Tree
  pub met : AreMet areas stands tree
  pub words : AreWorded areas stands met.holdings
  pub is : IsFileTree tree

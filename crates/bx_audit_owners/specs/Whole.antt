-- What the chunks of a volume are, once all are found.
use Rattle.std.specs.Prelude.{◌≡◌, ◌⊎◌, ◌<◌, ℕ, true, List, Some, Contains}
use Rattle.bx_audit_slots.specs.declared.slots.UsedSlot.{UsedSlot}
use Rattle.bx_audit_slots.specs.Numbers.{IsBlockOf, IsToldOf}
use Rattle.bx_audit_owners.specs.declared.holders.Holder.TheVariants.{Dead as OfDead}
use Rattle.bx_audit_owners.specs.Dead.{IsNoDead}
use Rattle.bx_audit_owners.specs.Found.{IsFound}
use Rattle.bx_audit_owners.specs.Holding.{Holdings, IsHeld, IsTornSlot}
use Rattle.bx_audit_slots.specs.UsedSlots.{IsFreeMarked, IsUsedSlot}
use Rattle.bx_model.specs.declared.tree.Tree.{Tree}
use Rattle.bx_model.specs.FileTrees.{IsFileTree}
use Rattle.bx_tree_files.specs.declared.file.File.{File}
use Rattle.bx_truth.specs.Chunks.{chunks_of}
use Rattle.bx_truth.specs.Stands.{StandsFor}
use Rattle.bx_views.specs.Truths.{Truth}

-- each slot in use has a holder and the mark that it should have
pub record IsWhole (areas : ℕ) (truth : Truth) (slots : List UsedSlot) (holdings : Holdings) (files : List File) : Type 0 where
  pub found : IsFound (chunks_of areas truth) holdings files
  pub held : (slot : UsedSlot) → Contains slots slot → IsHeld holdings slot

-- the truth stands for no file tree
abbrev pub StandsForNone : ℕ → Truth → Type 0
StandsForNone areas truth = (tree : Tree) → StandsFor areas truth tree → IsFileTree tree → ⊥

-- ---- what is told of a block that is torn: its number, the handle in its header, the one that is wanted

-- A slot is marked, and what it has is no dead inode with chunks of its own: a part of it is wanted, and told of. It is the first such slot, in the
-- order of their blocks: those of marked slots before it are dead inodes, and what these have was found with what files have.
pub record IsWrongDead (areas : ℕ) (truth : Truth) (at found wanted : ℕ) : Type 0 where
  pub holdings : Holdings
  pub files : List File
  pub is_found : IsFound (chunks_of areas truth) holdings files
  pub block : ℕ
  pub slot : UsedSlot
  pub there : IsUsedSlot areas truth block slot
  pub marked : slot.dead ≡ true
  pub before : (earlier : ℕ) (other : UsedSlot) → earlier < block → IsUsedSlot areas truth earlier other → other.dead ≡ true → holdings other.handle ≡ Some OfDead
  pub wrong : IsNoDead (chunks_of areas truth) holdings slot.handle wanted
  pub told : IsToldOf areas (IsBlockOf truth) wanted at found

-- Files and dead inodes are as they should be, and a slot has a chunk that none of them has, or another mark than it should have.
pub record IsWrongSlot (areas : ℕ) (truth : Truth) (at found wanted : ℕ) : Type 0 where
  pub holdings : Holdings
  pub files : List File
  pub is_found : IsFound (chunks_of areas truth) holdings files
  pub slot : UsedSlot
  pub there : IsUsedSlot areas truth at slot
  pub wrong : IsHeld holdings slot → ⊥
  pub tells : IsTornSlot slot at found wanted

-- a marked slot has no dead inode; or they are as they should be, and a slot is wrong
abbrev pub IsRestTorn : ℕ → Truth → ℕ → ℕ → ℕ → Type 0
IsRestTorn areas truth at found wanted = IsWrongDead areas truth at found wanted ⊎ IsWrongSlot areas truth at found wanted

-- a slot that isn't in use is marked; or what the walk doesn't meet is wrong
abbrev pub IsTreeTorn : ℕ → Truth → ℕ → ℕ → ℕ → Type 0
IsTreeTorn areas truth at found wanted = IsFreeMarked areas truth at found wanted ⊎ IsRestTorn areas truth at found wanted

-- What is wrong with a chunk that should be a dead inode.
use Rattle.std.specs.Prelude.{◌≡◌, ◌<◌, ℕ, true, List, length, slice_index_or, Some, None}
use Rattle.bx_audit_bodies.specs.declared.claims.Claim.{Claim}
use Rattle.bx_audit_bodies.specs.Faults.{HasFault}
use Rattle.bx_audit_bodies.specs.Parts.{IsPartOf, IsTornDead}
use Rattle.bx_audit_bodies.specs.Reading.{IsReadAs, IsStored}
use Rattle.bx_audit_bodies.specs.bx_audit_files.specs.Inodes.{IsInodeAt}
use Rattle.bx_audit_owners.specs.declared.holders.Holder.{Holder}
use Rattle.bx_audit_owners.specs.declared.holders.Holder.TheVariants.{Dead as OfDead}
use Rattle.bx_audit_slots.specs.declared.slots.UsedSlot.{UsedSlot}
use Rattle.bx_audit_owners.specs.Found.{IsFound}
use Rattle.bx_audit_owners.specs.Holding.{Clashes, Holdings}
use Rattle.bx_layout.specs.declared.inode.Inode.{Inode}
use Rattle.bx_tree_files.specs.declared.file.File.{File}
use Rattle.bx_truth.specs.PageTrees.{Chunks}
use Rattle.bx_truth.specs.Stored.{Owner, Stored}

-- No file and no dead inode is stored there, whoever may have which chunks. What is wanted is the handle itself, or a part of the inode that it
-- names, and it is wrong; of a dead inode, the first part that isn't as it should be, in the order in which they are read.
pub record IsUnreadDead (chunks : Chunks) (handle wanted : ℕ) : Type 0 where
  pub none : (owner : ℕ → Owner) (stored : Stored) → IsStored chunks owner handle stored None → ⊥
  pub part : IsPartOf chunks handle wanted
  pub fault : HasFault chunks handle wanted
  pub first : (inode : Inode) → IsInodeAt chunks handle inode → inode.kind ≡ 0 → IsTornDead chunks inode.tree wanted

-- A dead inode has a chunk that another owner has, of those that were found before, or as an earlier part of it: that is wanted.
pub record IsTakenDead (chunks : Chunks) (holdings : Holdings) (handle wanted : ℕ) : Type 0 where
  pub claims : List Claim
  pub read : IsReadAs chunks handle None claims
  pub clash : Clashes holdings handle OfDead claims
  pub wanted_is : wanted ≡ clash.claim.handle

-- What should be a dead inode is none with chunks of its own: it has another owner; it is a file's; no inode is there, or a part of it is wrong; or a
-- part has another owner.
pub data IsNoDead (chunks : Chunks) (holdings : Holdings) (handle wanted : ℕ) : Type 0 where
  Held : (other : Holder) → holdings handle ≡ Some other → (other ≡ OfDead → ⊥) → wanted ≡ handle → IsNoDead chunks holdings handle wanted
  Live : (file : File) (claims : List Claim) → IsReadAs chunks handle (Some file) claims → wanted ≡ handle → IsNoDead chunks holdings handle wanted
  Unread : IsUnreadDead chunks handle wanted → IsNoDead chunks holdings handle wanted
  Taken : IsTakenDead chunks holdings handle wanted → IsNoDead chunks holdings handle wanted

-- So it is with the chunk of one of some slots, which is marked; those of marked slots before it are dead inodes, and what these have was found
-- with what files have.
pub record IsNoDeadOf (chunks : Chunks) (files : List File) (slots : List UsedSlot) (wanted : ℕ) : Type 0 where
  pub place : ℕ
  pub slot : UsedSlot
  pub there : place < length slots
  pub is : slice_index_or slots place slot ≡ slot
  pub marked : slot.dead ≡ true
  pub holdings : Holdings
  pub found : IsFound chunks holdings files
  pub before : (k : ℕ) (other : UsedSlot) → k < place → slice_index_or slots k other ≡ other → other.dead ≡ true → holdings other.handle ≡ Some OfDead
  pub wrong : IsNoDead chunks holdings slot.handle wanted

-- What is found of the inodes of a volume.
use Rattle.std.specs.Prelude.{◌≡◌, ◌≢◌, ◌↔◌, ℕ, ◌<◌, List, AllPairs, Contains, Option, Some, None}
use Rattle.bx_audit_bodies.specs.Claims.{AgreesWith, AreClaims}
use Rattle.bx_audit_bodies.specs.Reading.{AreEntriesApart, IsOnly, IsStored}
use Rattle.bx_audit_bodies.specs.declared.claims.Claim.{Claim}
use Rattle.bx_audit_bodies.specs.bx_audit_files.specs.Inodes.{IsInodeAt}
use Rattle.bx_audit_owners.specs.declared.holders.Holder.{Holder}
use Rattle.bx_audit_owners.specs.declared.holders.Holder.TheVariants.{File as OfFile, Dead as OfDead, Page as OfPage, Piece as OfPiece}
use Rattle.bx_audit_owners.specs.Holding.{Holdings, holder_by}
use Rattle.bx_layout.specs.declared.block.Block.{Block}
use Rattle.bx_tree_files.specs.declared.file.File.{File}
use Rattle.bx_tree_files.specs.Files.{IsFile, file_at}
use Rattle.bx_truth.specs.PageTrees.{Chunks}
use Rattle.bx_truth.specs.Stands.{AreFiles}
use Rattle.bx_truth.specs.Stored.{Owner, Stored}

-- what was read of an inode
pub record Reading : Type 0 where
  pub stored : Stored
  pub claims : List Claim

-- The inode with this handle, which is dead by its kind exactly where there is no file, is stored so, with every owner that agrees with its claims, and
-- nothing else is stored there.
pub record IsReadSo (chunks : Chunks) (handle : ℕ) (file : Option File) (reading : Reading) : Type 0 where
  pub at : IsInodeAt chunks handle reading.stored.inode
  pub dead : (reading.stored.inode.kind ≡ 0) ↔ (file ≡ None)
  pub is : (owner : ℕ → Owner) → AgreesWith owner handle reading.claims → IsStored chunks owner handle reading.stored file
  pub are_claims : AreClaims chunks reading.stored reading.claims
  pub only : (owner : ℕ → Owner) (other : Stored) (found : Option File) → IsStored chunks owner handle other found → IsOnly chunks owner handle other found reading.stored.inode reading.claims file

-- it is an inode
abbrev pub IsInode : Option Holder → Type 0
IsInode None = ⊥
IsInode (Some OfFile) = Unit {0}
IsInode (Some OfDead) = Unit {0}
IsInode (Some (OfPage inode)) = ⊥
IsInode (Some (OfPiece inode index)) = ⊥

-- Each inode among the holders was read, with the file that it has among these, and its claims are kept; each other chunk is claimed by
-- one of them.
pub record IsFound (chunks : Chunks) (holdings : Holdings) (files : List File) : Type 0 where
  pub readings : ℕ → Reading
  pub inodes : (handle : ℕ) → IsInode (holdings handle) → IsReadSo chunks handle (file_at files handle) (readings handle)
  pub kept : (handle : ℕ) (claim : Claim) → IsInode (holdings handle) → Contains (readings handle).claims claim → holdings claim.handle ≡ Some (holder_by handle claim.piece)
  pub claimed : (handle inode : ℕ) (piece : Option ℕ) → holdings handle ≡ Some (holder_by inode piece)
      → IsInode (holdings inode) × Contains (readings inode).claims (record { handle = handle; piece = piece })
  pub is_file : (handle : ℕ) (file : File) → file_at files handle ≡ Some file → holdings handle ≡ Some OfFile
  pub has_file : (handle : ℕ) → holdings handle ≡ Some OfFile → file_at files handle ≢ None

-- each inode of the volume was read
abbrev pub AreAllRead : Chunks → Holdings → Type 0
AreAllRead chunks holdings = (handle : ℕ) (block : Block) → chunks handle ≡ Some block → block.kind ≡ 1 → holdings handle ≢ None

-- The files are in order, the entries of each directory are apart, and the handles are those of the files.
pub record AreOrdered (files : List File) (given : List ℕ) : Type 0 where
  pub rise : AllPairs (λ a b. a.handle < b.handle) files
  pub apart : (handle : ℕ) (file : File) → file_at files handle ≡ Some file → AreEntriesApart file.body
  pub given_is : (handle : ℕ) → Contains given handle → file_at files handle ≢ None
  pub all_given : (handle : ℕ) (file : File) → file_at files handle ≡ Some file → Contains given handle

-- the chunks are those of files, with these owners
pub record HaveFiles (chunks : Chunks) (owner : ℕ → Owner) (stored : ℕ → Stored) (files : List File) : Type 0 where
  pub are : AreFiles chunks owner stored files
  pub is_file : (handle : ℕ) (file : File) → file_at files handle ≡ Some file → IsFile file

-- they are those of no files
abbrev pub HaveNoFiles : Chunks → Type 0
HaveNoFiles chunks = (owner : ℕ → Owner) (stored : ℕ → Stored) (files : List File) → HaveFiles chunks owner stored files → ⊥

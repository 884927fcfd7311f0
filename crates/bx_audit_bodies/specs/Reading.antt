-- What is read of an inode: its file, or that it is dead, and the chunks that it has.
use Rattle.std.specs.Prelude.{◌≡◌, ◌≢◌, ◌↔◌, ℕ, List, Contains, Option, Some, None, IfSome, ◌<◌, AllPairs}
use Rattle.bx_audit_files.specs.Inodes.{IsInodeAt}
use Rattle.bx_layout.specs.declared.block.Block.{Block}
use Rattle.bx_layout.specs.declared.inode.Inode.{Inode}
use Rattle.bx_tree_files.specs.declared.file.Body.{Body}
use Rattle.bx_tree_files.specs.declared.file.Body.TheVariants.{Bytes, Path, Names}
use Rattle.bx_tree_files.specs.declared.file.File.{File}
use Rattle.bx_tree_files.specs.Files.{IsFile}
use Rattle.bx_truth.specs.PageTrees.{Chunks}
use Rattle.bx_truth.specs.Stored.{Owner, Stored, HasInode, IsFileOr}
use Rattle.bx_audit_bodies.specs.Claims.{AgreesWith, AreClaims, IsNamedBy}
use Rattle.bx_audit_bodies.specs.declared.claims.Claim.{Claim}

-- The handle names an inode that, with these owners, is a file's, or a dead one where there is no file.
pub record IsStored (chunks : Chunks) (owner : ℕ → Owner) (handle : ℕ) (stored : Stored) (found : Option File) : Type 0 where
  pub block : Block
  pub chunk : chunks handle ≡ Some block
  pub inode : HasInode stored.inode block
  pub file : IsFileOr chunks owner handle stored found
  pub is_file : IfSome found IsFile

-- Whatever is stored there, with whatever owners: it is this inode with this file, the owners agree with the claims, and what its tree
-- names is claimed.
pub record IsOnly (chunks : Chunks) (owner : ℕ → Owner) (handle : ℕ) (stored : Stored) (found : Option File) (inode : Inode) (claims : List Claim) (file : Option File) : Type 0 where
  pub same_inode : stored.inode ≡ inode
  pub same_file : found ≡ file
  pub agrees : AgreesWith owner handle claims
  pub complete : stored.inode.tree ≢ 0 → (named : ℕ) (piece : Option ℕ) → IsNamedBy stored.tree named piece → Contains claims (record { handle = named; piece = piece })

-- The handle names an inode with this file, or one that is dead by its kind, where there is none, and these are its claims: with owners that agree it is
-- stored so, and nothing else is.
pub record IsReadAs (chunks : Chunks) (handle : ℕ) (file : Option File) (claims : List Claim) : Type 0 where
  pub stored : Stored
  pub at : IsInodeAt chunks handle stored.inode
  pub dead : (stored.inode.kind ≡ 0) ↔ (file ≡ None)
  pub is : (owner : ℕ → Owner) → AgreesWith owner handle claims → IsStored chunks owner handle stored file
  pub are_claims : AreClaims chunks stored claims
  pub only : (owner : ℕ → Owner) (other : Stored) (found : Option File) → IsStored chunks owner handle other found → IsOnly chunks owner handle other found stored.inode claims file

-- the numbers of a directory's entries rise, and no name stands twice
abbrev pub AreEntriesApart : Body → Type 0
AreEntriesApart (Bytes bytes) = Unit {0}
AreEntriesApart (Path path) = Unit {0}
AreEntriesApart (Names parent next names) = AllPairs (λ entry later. entry.number < later.number) names × AllPairs (λ entry later. entry.name ≢ later.name) names

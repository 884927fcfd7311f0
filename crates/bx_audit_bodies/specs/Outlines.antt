-- What is known of an inode once its tree was read, before the blocks of a regular file's pieces are.
use Rattle.std.specs.Prelude.{◌≡◌, ℕ, ◌<◌, ◌^◌, List, Contains, Option, Some, None}
use Rattle.bx_audit_bodies.specs.Bodies.{HasBodyOf, HasPieces}
use Rattle.bx_audit_bodies.specs.Faults.{HasFault}
use Rattle.bx_audit_bodies.specs.Parts.{IsPartOf}
use Rattle.bx_audit_bodies.specs.Reading.{AreEntriesApart, IsReadAs, IsStored}
use Rattle.bx_audit_bodies.specs.declared.claims.Claim.{Claim}
use Rattle.bx_audit_bodies.specs.declared.outlines.FileOutline.{FileOutline}
use Rattle.bx_audit_bodies.specs.declared.outlines.Outline.{Outline}
use Rattle.bx_audit_bodies.specs.declared.outlines.Outline.TheVariants.{Dead, File as OfFile}
use Rattle.bx_audit_bodies.specs.declared.outlines.Parts.{Parts}
use Rattle.bx_audit_bodies.specs.declared.outlines.Parts.TheVariants.{Pieces, Whole}
use Rattle.bx_audit_bodies.specs.declared.pieces.Piece.{Piece}
use Rattle.bx_audit_files.specs.Inodes.{IsInodeAt}
use Rattle.bx_audit_pages.specs.Leading.{IsLedTo}
use Rattle.bx_layout.specs.declared.inode.Inode.{Inode}
use Rattle.bx_layout.specs.Inodes.{IsInode}
use Rattle.bx_tree_files.specs.declared.file.File.{File}
use Rattle.bx_tree_files.specs.Files.{IsFile}
use Rattle.bx_truth.specs.PageTrees.{Chunks}
use Rattle.bx_truth.specs.Stored.{Owner, Stored}

-- what holds of parts whatever chunks there are: the file is one, with its entries apart; or the inode is a regular file's
abbrev pub AreRight : Parts → Type 0
AreRight (Whole file) = IsFile file × AreEntriesApart file.body
AreRight (Pieces inode pieces) = IsInode inode × (inode.kind ≡ 1) × (inode.size < 2 ^ 31)

-- so it is with what an outline of the inode with a handle says of a file
abbrev pub IsRight : ℕ → Outline → Type 0
IsRight handle (Dead claims) = Unit {0}
IsRight handle (OfFile outline) = (outline.handle ≡ handle) × AreRight outline.parts

-- The tree of a regular file's inode has these pieces, to each of which its root leads, and these are its claims.
pub record HasRegular (chunks : Chunks) (inode : Inode) (pieces : List Piece) (claims : List Claim) : Type 0 where
  pub has : HasPieces chunks inode.tree pieces claims
  pub led : (piece : Piece) → Contains pieces piece → IsLedTo chunks inode.tree piece.handle

-- ---- by an inode

-- the parts are those of the inode with a handle: all of its file; or itself, with the pieces of its tree
abbrev pub ArePartsOf : Chunks → ℕ → Inode → Parts → List Claim → Type 0
ArePartsOf chunks handle inode (Whole file) claims = HasBodyOf chunks handle inode (Some file) claims
ArePartsOf chunks handle inode (Pieces kept pieces) claims = (kept ≡ inode) × HasRegular chunks inode pieces.items claims

-- the outline is that of the inode with a handle
abbrev pub IsOutlineOf : Chunks → ℕ → Inode → Outline → Type 0
IsOutlineOf chunks handle inode (Dead claims) = HasBodyOf chunks handle inode None claims.items
IsOutlineOf chunks handle inode (OfFile outline) = ArePartsOf chunks handle inode outline.parts outline.claims.items

-- ---- by a handle

-- the parts are those of the inode that the handle names
abbrev pub ArePartsAt : Chunks → ℕ → Parts → List Claim → Type 0
ArePartsAt chunks handle (Whole file) claims = IsReadAs chunks handle (Some file) claims
ArePartsAt chunks handle (Pieces inode pieces) claims = IsInodeAt chunks handle inode × HasRegular chunks inode pieces.items claims

-- the handle of the outline names a file's inode, whose tree is as the outline says
abbrev pub IsFileOutline : Chunks → FileOutline → Type 0
IsFileOutline chunks outline = ArePartsAt chunks outline.handle outline.parts outline.claims.items

-- the handle names a dead inode with these claims, or a file's whose tree is as the outline says
abbrev pub IsOutlineAt : Chunks → ℕ → Outline → Type 0
IsOutlineAt chunks handle (Dead claims) = IsReadAs chunks handle None claims.items
IsOutlineAt chunks handle (OfFile outline) = ArePartsAt chunks handle outline.parts outline.claims.items

-- The handle names a file's inode, of which some file is read with these claims.
pub record IsReadable (chunks : Chunks) (handle : ℕ) (claims : List Claim) : Type 0 where
  pub file : File
  pub read : IsReadAs chunks handle (Some file) claims

-- The handle names an inode that isn't dead, but nothing is stored there, whoever may have which chunks. What is wanted is a part of it that is wrong.
pub record IsUnreadFile (chunks : Chunks) (handle wanted : ℕ) : Type 0 where
  pub none : (owner : ℕ → Owner) (stored : Stored) (found : Option File) → IsStored chunks owner handle stored found → ⊥
  pub part : IsPartOf chunks handle wanted
  pub fault : HasFault chunks handle wanted
  pub live : (inode : Inode) → IsInodeAt chunks handle inode → inode.kind ≡ 0 → ⊥

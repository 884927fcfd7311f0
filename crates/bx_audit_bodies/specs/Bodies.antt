-- What an inode that was read has: its file, or that it is dead, and the chunks of its tree.
use Rattle.std.specs.Prelude.{◌≡◌, ◌≢◌, ◌↔◌, ℕ, ◌++◌, List, Contains, Option, None, IfSome}
pub use Rattle.bx_inodes.specs.Heads.{file_with}
use Rattle.bx_layout.specs.declared.inode.Inode.{Inode}
use Rattle.bx_tree_files.specs.declared.file.File.{File}
use Rattle.bx_tree_files.specs.Files.{IsFile}
use Rattle.bx_truth.specs.PageTrees.{Chunks, Node, PageTree, IsTree, map_of}
use Rattle.bx_truth.specs.Stored.{Owner, IsFileOr}
use Rattle.bx_audit_pages.specs.Trees.{tree_of}
use Rattle.bx_audit_bodies.specs.Claiming.{page_claims, piece_claims}
use Rattle.bx_audit_bodies.specs.Claims.{AgreesWith, AreClaims, IsNamedBy}
use Rattle.bx_audit_bodies.specs.Pieces.{ArePieces}
use Rattle.bx_audit_bodies.specs.declared.claims.Claim.{Claim}
use Rattle.bx_audit_bodies.specs.declared.pieces.Piece.{Piece}

-- Under the root is a tree whose entries are those of the pieces, and the claims are those of its pages and of the pieces.
pub record HasPieces (chunks : Chunks) (root : ℕ) (pieces : List Piece) (claims : List Claim) : Type 0 where
  pub levels : List (List Node)
  pub is : IsTree chunks root (tree_of levels)
  pub are_pieces : ArePieces (map_of (tree_of levels)) pieces
  pub claims_are : claims ≡ page_claims levels ++ piece_claims pieces

-- With this tree the inode with a handle is that of the file, or a dead one.
pub record IsBodyOf (chunks : Chunks) (owner : ℕ → Owner) (handle : ℕ) (inode : Inode) (tree : PageTree) (found : Option File) : Type 0 where
  pub file : IsFileOr chunks owner handle (record { inode = inode; tree = tree }) found
  pub is_file : IfSome found IsFile

-- The inode is that of this file, or a dead one, by each owner that agrees with the claims; these are those of its tree; and by any owner
-- that it has a file by, or is dead by, it is so. By its kind it is dead exactly where there is no file.
pub record HasBodyOf (chunks : Chunks) (handle : ℕ) (inode : Inode) (file : Option File) (claims : List Claim) : Type 0 where
  pub tree : PageTree
  pub dead : (inode.kind ≡ 0) ↔ (file ≡ None)
  pub is : (owner : ℕ → Owner) → AgreesWith owner handle claims → IsBodyOf chunks owner handle inode tree file
  pub are_claims : AreClaims chunks (record { inode = inode; tree = tree }) claims
  pub agrees : (owner : ℕ → Owner) (other : PageTree) (found : Option File) → IsBodyOf chunks owner handle inode other found → AgreesWith owner handle claims
  pub complete : inode.tree ≢ 0 → (other : PageTree) (named : ℕ) (piece : Option ℕ) → IsTree chunks inode.tree other → IsNamedBy other named piece
      → Contains claims (record { handle = named; piece = piece })

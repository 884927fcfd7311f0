-- What is wrong with a part of a file that can't be read: with a chunk that a walk over the file meets.
use Rattle.std.specs.Prelude.{◌≡◌, ◌≢◌, ℕ, ◌<◌, ◌≤◌, List}
use Rattle.bx_audit_bodies.specs.Claims.{IsPieceNamed}
use Rattle.bx_audit_bodies.specs.Contents.{IsClear}
use Rattle.bx_audit_bodies.specs.Parts.{IsFirstLeaf}
use Rattle.bx_audit_files.specs.Inodes.{IsBlockAt, IsInodeAt}
use Rattle.bx_audit_pages.specs.Torn.{IsTornPage}
use Rattle.bx_layout.specs.declared.block.Block.{Block}
use Rattle.bx_layout.specs.declared.inode.Inode.{Inode}
use Rattle.bx_tree_files.specs.declared.file.Name.{Name}
use Rattle.bx_tree_files.specs.Entries.{AreBelow}
use Rattle.bx_truth.specs.PageTrees.{Chunks, PageTree, IsTree, map_of}
use Rattle.bx_truth.specs.Stored.{AreNames}

-- The inode itself is that of no file, however its chunks are owned: a regular file has too many bytes; a directory has a next number that isn't above
-- its count of links, or a tree whose entries are no directory's with numbers below the next one; a link has a tree.
pub data IsWrongInode (chunks : Chunks) (inode : Inode) : Type 0 where
  Size : inode.kind ≡ 1 → 2147483647 < inode.size → IsWrongInode chunks inode
  Next : inode.kind ≡ 2 → inode.next ≤ inode.nlink → IsWrongInode chunks inode
  Names : inode.kind ≡ 2 → (tree : PageTree) → IsTree chunks inode.tree tree → ((names : List Name) → AreNames (map_of tree) names → AreBelow inode.next names → ⊥) → IsWrongInode chunks inode
  Link : inode.kind ≡ 5 → inode.tree ≢ 0 → IsWrongInode chunks inode

-- an inode has a tree of pages: a regular file's, a directory's, and a dead one that has a tree left
pub record HasPages (inode : Inode) : Type 0 where
  pub no_link : inode.kind ≢ 5
  pub dead : inode.kind ≡ 0 → inode.tree ≢ 0

-- the entries of that tree name pieces: it is no directory's
pub record HasEntries (inode : Inode) : Type 0 where
  pub pages : HasPages inode
  pub no_directory : inode.kind ≢ 2

-- an entry of the tree names the block of a piece, and no block of one is there; or, in a regular file, it has a byte from the tail on that isn't zero
pub record IsTornPiece (chunks : Chunks) (inode : Inode) (tree : PageTree) (wanted : ℕ) : Type 0 where
  pub index : ℕ
  pub named : IsPieceNamed tree wanted index
  pub wrong : (block : Block) → IsBlockAt chunks wanted 3 block → (inode.kind ≡ 1 → IsClear inode.tail index block.payload) → ⊥

-- Of the inode under a handle a part is wanted that is wrong: the inode itself; a page of its tree; of a tree that is there, the first leaf with an entry
-- that names no piece, or a block that is named as a piece's.
pub data HasFaultIn (chunks : Chunks) (handle : ℕ) (inode : Inode) (wanted : ℕ) : Type 0 where
  Itself : IsWrongInode chunks inode → wanted ≡ handle → HasFaultIn chunks handle inode wanted
  Page : HasPages inode → IsTornPage chunks inode.tree wanted → HasFaultIn chunks handle inode wanted
  Entry : (tree : PageTree) → HasEntries inode → IsTree chunks inode.tree tree → IsFirstLeaf (tree.level 0) wanted → HasFaultIn chunks handle inode wanted
  Piece : (tree : PageTree) → HasEntries inode → IsTree chunks inode.tree tree → IsTornPiece chunks inode tree wanted → HasFaultIn chunks handle inode wanted

-- The file under a handle can't be read, and what is wanted is wrong: no inode is there, or a part of the one that is.
pub data HasFault (chunks : Chunks) (handle wanted : ℕ) : Type 0 where
  Missing : ((inode : Inode) → IsInodeAt chunks handle inode → ⊥) → wanted ≡ handle → HasFault chunks handle wanted
  Within : (inode : Inode) → IsInodeAt chunks handle inode → HasFaultIn chunks handle inode wanted → HasFault chunks handle wanted

-- The chunks that a walk over a file meets.
use Rattle.std.specs.Prelude.{◌≡◌, ◌⊎◌, ◌<◌, ◌++◌, ℕ, List, ◌∷◌, All, Contains, length, slice_index_or, take}
use Rattle.bx_audit_bodies.specs.declared.pieces.Piece.{Piece}
use Rattle.bx_audit_bodies.specs.Contents.{IsClear}
use Rattle.bx_audit_bodies.specs.Pieces.{ArePieces, HasPiece, IsPieceEntry}
use Rattle.bx_audit_files.specs.Inodes.{IsBlockAt, IsInodeAt}
use Rattle.bx_audit_pages.specs.Leading.{IsLedTo}
use Rattle.bx_audit_pages.specs.Torn.{IsTornPage}
use Rattle.bx_layout.specs.declared.block.Block.{Block}
use Rattle.bx_layout.specs.declared.inode.Inode.{Inode}
use Rattle.bx_truth.specs.PageTrees.{Chunks, Node, PageTree, IsTree, entries_of, map_of}

-- the handle is the inode's own, or the root of its tree leads to it
abbrev pub IsPartWith : Chunks → ℕ → ℕ → ℕ → Type 0
IsPartWith chunks handle root part = (part ≡ handle) ⊎ IsLedTo chunks root part

-- the handle is that of an inode, or the root leads to it of the tree of the inode that it names
abbrev pub IsPartOf : Chunks → ℕ → ℕ → Type 0
IsPartOf chunks handle part = (part ≡ handle) ⊎ ((inode : Inode) × IsInodeAt chunks handle inode × IsLedTo chunks inode.tree part)

-- it is that of one of some pieces
pub record IsOfOne (pieces : List Piece) (part : ℕ) : Type 0 where
  pub piece : Piece
  pub there : Contains pieces piece
  pub is : part ≡ piece.handle

-- it is that of one of them, and names no block of a piece, or one with a byte from the tail on that isn't zero
pub record IsUnclearPiece (chunks : Chunks) (pieces : List Piece) (tail wanted : ℕ) : Type 0 where
  pub piece : Piece
  pub there : Contains pieces piece
  pub is : wanted ≡ piece.handle
  pub wrong : (block : Block) → IsBlockAt chunks piece.handle 3 block → IsClear tail piece.index block.payload → ⊥

-- Of some pieces this is the first whose handle names no block of a piece: that handle is wanted.
pub record IsFirstPiece (chunks : Chunks) (pieces : List Piece) (wanted : ℕ) : Type 0 where
  pub place : ℕ
  pub piece : Piece
  pub there : place < length pieces
  pub is : slice_index_or pieces place piece ≡ piece
  pub before : All (HasPiece chunks) (take place pieces)
  pub none : HasPiece chunks piece → ⊥
  pub wanted_is : wanted ≡ piece.handle

-- the first of some leaves that has an entry which names no piece
pub record IsFirstLeaf (leaves : List Node) (wanted : ℕ) : Type 0 where
  pub before : List Node
  pub leaf : Node
  pub behind : List Node
  pub parts : leaves ≡ before ++ leaf ∷ behind
  pub right : All IsPieceEntry (entries_of before)
  pub wrong : All IsPieceEntry leaf.page.entries → ⊥
  pub wanted_is : wanted ≡ leaf.handle

-- Under a root is no tree of pieces. What is wanted is a page to which the root leads, and which is wrong, where no tree is there; or, of the tree that
-- is there, the first leaf with an entry that names no piece.
pub data IsTornTree (chunks : Chunks) (root wanted : ℕ) : Type 0 where
  Page : ((tree : PageTree) → IsTree chunks root tree → ⊥) → IsLedTo chunks root wanted → IsTornPage chunks root wanted → IsTornTree chunks root wanted
  Entry : (tree : PageTree) → IsTree chunks root tree → IsFirstLeaf (tree.level 0) wanted → IsTornTree chunks root wanted

-- Which part of a dead inode is wanted, whose tree has this root: its tree is read first, and then piece by piece, in the order of its entries.
pub data IsTornDead (chunks : Chunks) (root wanted : ℕ) : Type 0 where
  Tree : IsTornTree chunks root wanted → IsTornDead chunks root wanted
  Lost : (tree : PageTree) (pieces : List Piece) → IsTree chunks root tree → ArePieces (map_of tree) pieces → IsFirstPiece chunks pieces wanted → IsTornDead chunks root wanted

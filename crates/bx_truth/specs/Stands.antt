-- The file tree that a truth stands for.
use Rattle.std.specs.Prelude.{◌≡◌, ◌≢◌, ℕ, ◌%◌, ◌^◌, ◌<◌, ◌≤◌, Bool, true, false, List, AllPairs, Contains, Some, None}
use Rattle.bx_views.specs.bx_layout.specs.declared.block.Block.{Block}
use Rattle.bx_views.specs.bx_layout.specs.Areas.{generation_in}
use Rattle.bx_model.specs.bx_tree_files.specs.declared.file.File.{File}
use Rattle.bx_model.specs.declared.tree.Tree.{Tree}
use Rattle.bx_model.specs.bx_tree_files.specs.Files.{file_at}
use Rattle.bx_model.specs.Opening.{root_handle}
use Rattle.bx_page.specs.Contents.{value_of}
use Rattle.bx_truth.specs.Chunks.{IsSlot, IsChunked, chunks_of, block_at, word_at, dead_at}
use Rattle.bx_truth.specs.Keys.{content_key, content_value}
use Rattle.bx_truth.specs.Stored.{Owner, Inodes, PageOf, DataOf, Stored, HasInode, IsFileOr}
use Rattle.bx_truth.specs.PageTrees.{Chunks, Node, IsPageOf, map_of}
use Rattle.bx_views.specs.Truths.{Truth}

-- the handle of an inode that has a tree
pub record HasOne (chunks : Chunks) (owner : ℕ → Owner) (stored : ℕ → Stored) (handle : ℕ) : Type 0 where
  pub block : Block
  pub chunk : chunks handle ≡ Some block
  pub itself : owner handle ≡ Inodes
  pub has_tree : (stored handle).inode.tree ≢ 0

-- an inode: a file's, or a dead one where there is no file
pub record IsAnInode (chunks : Chunks) (owner : ℕ → Owner) (stored : ℕ → Stored) (files : List File) (handle : ℕ) (block : Block) : Type 0 where
  pub inode : HasInode (stored handle).inode block
  pub file : IsFileOr chunks owner handle (stored handle) (file_at files handle)

-- a page of the tree of an inode
pub record IsAPage (chunks : Chunks) (owner : ℕ → Owner) (stored : ℕ → Stored) (handle : ℕ) (block : Block) (inode : ℕ) : Type 0 where
  pub kind : block.kind ≡ 2
  pub of : HasOne chunks owner stored inode
  pub node : Node
  pub there : IsPageOf (stored inode).tree node
  pub names : node.handle ≡ handle

-- the block of a piece that the tree of an inode names
pub record IsAPiece (chunks : Chunks) (owner : ℕ → Owner) (stored : ℕ → Stored) (handle : ℕ) (block : Block) (inode index : ℕ) : Type 0 where
  pub kind : block.kind ≡ 3
  pub of : HasOne chunks owner stored inode
  pub names : value_of (map_of (stored inode).tree) (content_key index) ≡ Some (content_value handle)

-- the handle of the inode that a chunk is of
abbrev pub inode_of : ℕ → Owner → ℕ
inode_of handle Inodes = handle
inode_of handle (PageOf inode) = inode
inode_of handle (DataOf inode index) = inode

-- The chunk with this handle is what its owner says.
abbrev pub IsOwned : Chunks → (ℕ → Owner) → (ℕ → Stored) → List File → ℕ → Block → Owner → Type 0
IsOwned chunks owner stored files handle block Inodes = IsAnInode chunks owner stored files handle block
IsOwned chunks owner stored files handle block (PageOf inode) = IsAPage chunks owner stored handle block inode
IsOwned chunks owner stored files handle block (DataOf inode index) = IsAPiece chunks owner stored handle block inode index

-- The chunks are exactly the inodes, the pages of their trees and the blocks that these name, each of one owner; and the inodes that
-- aren't dead are the files.
pub record AreFiles (chunks : Chunks) (owner : ℕ → Owner) (stored : ℕ → Stored) (files : List File) : Type 0 where
  pub each : (handle : ℕ) (block : Block) → chunks handle ≡ Some block → IsOwned chunks owner stored files handle block (owner handle)
  pub all : (handle : ℕ) (file : File) → file_at files handle ≡ Some file → (owner handle ≡ Inodes) × (chunks handle ≢ None)

-- All chunks but those of the inodes that a test names are the same, with the same owners.
pub record StaysBut (named : ℕ → Bool) (chunks : Chunks) (owner : ℕ → Owner) (now : Chunks) (owner_now : ℕ → Owner) : Type 0 where
  pub kept : (handle : ℕ) (block : Block) → chunks handle ≡ Some block → named (inode_of handle (owner handle)) ≡ false
      → (now handle ≡ Some block) × (owner_now handle ≡ owner handle)
  pub none_new : (handle : ℕ) (block : Block) → now handle ≡ Some block → named (inode_of handle (owner_now handle)) ≡ false
      → (chunks handle ≡ Some block) × (owner_now handle ≡ owner handle)

-- The handle was given out: its generation is at most that in its slot's word.
pub record WasGiven (areas : ℕ) (truth : Truth) (handle : ℕ) : Type 0 where
  pub slot : IsSlot areas (block_at handle)
  pub generation : handle % 2 ^ 32 ≤ generation_in (word_at truth (block_at handle))

-- the slots that are marked are those of the dead inodes
pub record MarksTheDead (areas : ℕ) (truth : Truth) (owner : ℕ → Owner) (stored : ℕ → Stored) : Type 0 where
  pub dead : (handle : ℕ) (block : Block) → chunks_of areas truth handle ≡ Some block → owner handle ≡ Inodes → (stored handle).inode.kind ≡ 0 → dead_at truth (block_at handle) ≡ true
  pub marked : (block : ℕ) → IsSlot areas block → dead_at truth block ≡ true
      → (handle : ℕ) × (block_at handle ≡ block) × (chunks_of areas truth handle ≢ None) × (owner handle ≡ Inodes) × ((stored handle).inode.kind ≡ 0)

-- The truth of a volume with so many areas stands for the tree.
pub record StandsFor (areas : ℕ) (truth : Truth) (tree : Tree) : Type 0 where
  pub chunked : IsChunked areas truth
  pub owner : ℕ → Owner
  pub stored : ℕ → Stored
  pub are_files : AreFiles (chunks_of areas truth) owner stored tree.files
  pub marks : MarksTheDead areas truth owner stored
  pub areas_are : tree.areas ≡ areas
  pub root_is : tree.root ≡ root_handle
  pub has_root : file_at tree.files root_handle ≢ None
  pub in_order : AllPairs (λ a b. a.handle < b.handle) tree.files
  pub given : (handle : ℕ) → Contains tree.given handle → WasGiven areas truth handle

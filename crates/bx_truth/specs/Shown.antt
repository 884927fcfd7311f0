-- One file of a truth by itself: what is shown of it, and what stays around it.
use Rattle.std.specs.Prelude.{◌≡◌, ◌≢◌, ℕ, ◌≤◌, ◌==◌, Some, None}
use Rattle.bx_views.specs.bx_layout.specs.declared.block.Block.{Block}
use Rattle.bx_views.specs.bx_layout.specs.Areas.{generation_in}
use Rattle.bx_model.specs.bx_tree_files.specs.declared.file.File.{File}
use Rattle.bx_model.specs.declared.tree.Tree.{Tree}
use Rattle.bx_page.specs.Contents.{value_of}
use Rattle.bx_truth.specs.Chunks.{IsSlot, IsChunked, chunks_of, word_at, dead_at}
use Rattle.bx_truth.specs.Keys.{content_key, content_value}
use Rattle.bx_truth.specs.Stands.{StandsFor, StaysBut}
use Rattle.bx_truth.specs.Stored.{Owner, Inodes, PageOf, DataOf, Stored, HasInode, HasFields, HasBody}
use Rattle.bx_truth.specs.PageTrees.{Chunks, Node, IsPageOf, map_of}
use Rattle.bx_views.specs.Truths.{Truth}

-- the chunk is a page of the inode's tree
pub record IsPageIn (stored : Stored) (handle : ℕ) (block : Block) : Type 0 where
  pub kind : block.kind ≡ 2
  pub has_tree : stored.inode.tree ≢ 0
  pub node : Node
  pub there : IsPageOf stored.tree node
  pub names : node.handle ≡ handle

-- the chunk is a piece that the inode's tree names
pub record IsPieceIn (stored : Stored) (index handle : ℕ) (block : Block) : Type 0 where
  pub kind : block.kind ≡ 3
  pub has_tree : stored.inode.tree ≢ 0
  pub names : value_of (map_of stored.tree) (content_key index) ≡ Some (content_value handle)

-- The chunks show this file under this handle: its inode, its body, and nothing else is its own.
pub record IsShown (chunks : Chunks) (owner : ℕ → Owner) (handle : ℕ) (stored : Stored) (file : File) : Type 0 where
  pub block : Block
  pub chunk : chunks handle ≡ Some block
  pub itself : owner handle ≡ Inodes
  pub has : HasInode stored.inode block
  pub handle_is : file.handle ≡ handle
  pub fields : HasFields stored.inode file
  pub body : HasBody chunks owner handle stored file.body
  pub pages : (h : ℕ) (b : Block) → chunks h ≡ Some b → owner h ≡ PageOf handle → IsPageIn stored h b
  pub pieces : (h index : ℕ) (b : Block) → chunks h ≡ Some b → owner h ≡ DataOf handle index → IsPieceIn stored index h b

-- The slots still have the rules of chunks, no generation falls, so that handles once given out stay given, and the same slots are
-- marked as dead inodes'.
pub record KeepsSlots (areas : ℕ) (truth now : Truth) : Type 0 where
  pub chunked : IsChunked areas now
  pub given : (block : ℕ) → IsSlot areas block → generation_in (word_at truth block) ≤ generation_in (word_at now block)
  pub dead : (block : ℕ) → IsSlot areas block → dead_at now block ≡ dead_at truth block

-- no dead file has the handle
abbrev pub IsNoDead : (areas : ℕ) (truth : Truth) (tree : Tree) → StandsFor areas truth tree → ℕ → Type 0
IsNoDead areas truth tree is handle = chunks_of areas truth handle ≢ None → is.owner handle ≡ Inodes → (is.stored handle).inode.kind ≢ 0

-- All chunks stay, with their owners, but those that are the file's with this handle, before or now.
abbrev pub KeepsOthers : (areas : ℕ) (truth now : Truth) (tree : Tree) → StandsFor areas truth tree → (ℕ → Owner) → ℕ → Type 0
KeepsOthers areas truth now tree is owner_now handle = StaysBut (λ h. h == handle) (chunks_of areas truth) is.owner (chunks_of areas now) owner_now

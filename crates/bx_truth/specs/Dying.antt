-- A file that dies: its inode and what it has stay as a dead inode's, and are freed later.
use Rattle.std.specs.Prelude.{◌≡◌, ◌≢◌, ℕ, ◌≤◌, ◌==◌, if◌then◌else◌, Bool, List, [], ◌∷◌, Some, None}
use Rattle.bx_views.specs.bx_layout.specs.declared.block.Block.{Block}
use Rattle.bx_views.specs.bx_layout.specs.Areas.{generation_in}
use Rattle.bx_model.specs.bx_tree_files.specs.declared.file.File.{File}
use Rattle.bx_model.specs.declared.tree.Tree.{Tree}
use Rattle.bx_truth.specs.Chunks.{IsSlot, IsChunked, chunks_of, block_at, word_at, dead_at}
use Rattle.bx_truth.specs.Stands.{StandsFor}
use Rattle.bx_truth.specs.Stored.{Owner, Inodes, PageOf, DataOf, Stored, HasInode, IsDead}
use Rattle.bx_truth.specs.PageTrees.{Chunks}
use Rattle.bx_views.specs.Truths.{Truth}
use Rattle.bx_truth.specs.Shown.{IsPageIn, IsPieceIn}

-- the files without the one with a handle
abbrev pub without_file : List File → ℕ → List File
without_file [] handle = []
without_file (file ∷ files) handle = if file.handle == handle then without_file files handle else file ∷ without_file files handle

-- The chunks show a dead inode under this handle.
pub record IsShownDead (chunks : Chunks) (owner : ℕ → Owner) (handle : ℕ) (stored : Stored) : Type 0 where
  pub block : Block
  pub chunk : chunks handle ≡ Some block
  pub itself : owner handle ≡ Inodes
  pub has : HasInode stored.inode block
  pub dead : IsDead chunks owner handle stored
  pub pages : (h : ℕ) (b : Block) → chunks h ≡ Some b → owner h ≡ PageOf handle → IsPageIn stored h b
  pub pieces : (h index : ℕ) (b : Block) → chunks h ≡ Some b → owner h ≡ DataOf handle index → IsPieceIn stored index h b

-- The slot of a handle has this mark, and no other mark changes.
pub record MarksSlot (areas : ℕ) (truth now : Truth) (handle : ℕ) (dead : Bool) : Type 0 where
  pub chunked : IsChunked areas now
  pub given : (block : ℕ) → IsSlot areas block → generation_in (word_at truth block) ≤ generation_in (word_at now block)
  pub here : dead_at now (block_at handle) ≡ dead
  pub others : (block : ℕ) → IsSlot areas block → block ≢ block_at handle → dead_at now block ≡ dead_at truth block

-- a dead file's inode is there under this handle
pub record IsDeadFile (areas : ℕ) (truth : Truth) (tree : Tree) (is : StandsFor areas truth tree) (handle : ℕ) : Type 0 where
  pub there : chunks_of areas truth handle ≢ None
  pub itself : is.owner handle ≡ Inodes
  pub kind : (is.stored handle).inode.kind ≡ 0

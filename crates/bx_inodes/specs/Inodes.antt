-- What is read of an inode: by what is seen over a view with a draft, and by the tree.
use Rattle.std.specs.Prelude.{◌≡◌, ◌≢◌, ℕ, ◌==◌, if◌then◌else◌, true, length, Some, None, Result, Ok, Err}
use Rattle.bx_base.specs.declared.names.Mode.{Mode}
use Rattle.bx_blink.specs.Walks.{Reads}
use Rattle.bx_layout.specs.declared.block.Block.{Block}
use Rattle.bx_layout.specs.declared.inode.Inode.{Inode}
use Rattle.bx_blink.specs.bx_model.specs.declared.tree.Tree.{Tree}
use Rattle.bx_places.specs.Places.{is_block}
use Rattle.bx_blink.specs.bx_tree_files.specs.declared.file.File.{File}
use Rattle.bx_blink.specs.bx_tree_files.specs.Files.{file_at, size_of}
use Rattle.bx_blink.specs.bx_truth.specs.Chunks.{IsName, block_at, chunks_of}
use Rattle.bx_blink.specs.bx_truth.specs.Stored.{HasFields, HasInode}
use Rattle.bx_blink.specs.bx_views.specs.Truths.{Truth}
use Rattle.bx_inodes.specs.declared.stop.Stop.{Stop}
use Rattle.bx_inodes.specs.declared.stop.Stop.TheVariants.{Need, Inner, Status, OutOfMemory}

-- the inode of a file is seen under its handle
pub record LiveAt (reads : Reads) (areas handle : ℕ) (mode : Mode) (inode : Inode) : Type 0 where
  pub name : IsName areas handle
  pub block : Block
  pub there : reads.held (block_at handle) mode ≡ Some block
  pub header : block.handle ≡ handle
  pub has : HasInode inode block
  pub live : inode.kind ≢ 0

-- the block that is seen where a handle's is has another header, or is no inode of a file
pub record SeesNoInode (reads : Reads) (handle : ℕ) (mode : Mode) : Type 0 where
  pub block : Block
  pub there : reads.held (block_at handle) mode ≡ Some block
  pub none : block.handle ≡ handle → (inode : Inode) → HasInode inode block → inode.kind ≡ 0

-- the block of a handle is one of the volume, and isn't seen in a mode
pub record LacksInode (reads : Reads) (areas handle at : ℕ) (mode asked : Mode) : Type 0 where
  pub at_is : at ≡ block_at handle
  pub asked_is : asked ≡ mode
  pub is : is_block areas at ≡ true
  pub missing : reads.held at asked ≡ None

-- What is read, by what is seen. The status 70 is STALE.
abbrev pub InodeAt : Reads → ℕ → ℕ → Mode → Result Inode Stop → Type 0
InodeAt reads areas handle mode (Ok inode) = LiveAt reads areas handle mode inode
InodeAt reads areas handle mode (Err (Status status)) = (status ≡ 70) × (IsName areas handle → SeesNoInode reads handle mode)
InodeAt reads areas handle mode (Err (Need at asked)) = LacksInode reads areas handle at mode asked
InodeAt reads areas handle mode (Err (Inner blocks)) = ⊥
InodeAt reads areas handle mode (Err OutOfMemory) = Unit {0}

-- the truth has this inode under this handle
pub record HoldsInode (areas : ℕ) (truth : Truth) (handle : ℕ) (inode : Inode) : Type 0 where
  pub block : Block
  pub chunk : chunks_of areas truth handle ≡ Some block
  pub has : HasInode inode block

-- the size that the attributes of an inode's file show
abbrev pub shown_size : Inode → ℕ
shown_size inode = if inode.kind == 2 then 4096 else if inode.kind == 5 then length inode.path else inode.size

-- the inode is that of the tree's file with this handle
pub record IsInodeOf (areas : ℕ) (truth : Truth) (tree : Tree) (handle : ℕ) (inode : Inode) : Type 0 where
  pub holds : HoldsInode areas truth handle inode
  pub file : File
  pub there : file_at tree.files handle ≡ Some file
  pub handle_is : file.handle ≡ handle
  pub fields : HasFields inode file
  pub size : size_of file.body ≡ shown_size inode

-- What is read, by the tree: the status is STALE where it has no file with the handle.
abbrev pub FileAt : ℕ → Truth → Tree → ℕ → Result Inode Stop → Type 0
FileAt areas truth tree handle (Ok inode) = IsInodeOf areas truth tree handle inode
FileAt areas truth tree handle (Err (Status status)) = (status ≡ 70) × (file_at tree.files handle ≡ None)
FileAt areas truth tree handle (Err (Need at asked)) = Unit {0}
FileAt areas truth tree handle (Err (Inner blocks)) = ⊥
FileAt areas truth tree handle (Err OutOfMemory) = Unit {0}

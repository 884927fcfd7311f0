-- What is read of the blocks that a view holds exclusively: a block by its handle, a page, a dead inode.
use Rattle.std.specs.Prelude.{◌≡◌, ◌≢◌, ℕ, ◌⊎◌, Some, None, Result, Ok, Err}
use Rattle.bx_base.specs.declared.names.Mode.{Mode}
use Rattle.bx_base.specs.declared.names.Mode.TheVariants.{Exclusive}
use Rattle.bx_blink.specs.Walks.{IsNoPage}
use Rattle.bx_chunks.specs.Reading.{NamesAnother}
use Rattle.bx_chunks.specs.declared.error.ChunkError.{ChunkError}
use Rattle.bx_chunks.specs.declared.error.ChunkError.TheVariants.{Need, Stale, Full, OutOfMemory, Crowded}
use Rattle.bx_layout.specs.declared.block.Block.{Block}
use Rattle.bx_layout.specs.declared.inode.Inode.{Inode}
use Rattle.bx_page.specs.Contents.{Contents}
use Rattle.bx_truth.specs.Chunks.{IsSlot, block_at}
use Rattle.bx_truth.specs.PageTrees.{HasPage}
use Rattle.bx_truth.specs.Stored.{HasInode}
use Rattle.bx_views.specs.Truths.{Held}

-- a block is held exclusively under a handle of a slot of the volume
pub record HoldsBlock (held : Held) (areas handle : ℕ) (block : Block) : Type 0 where
  pub slot : IsSlot areas (block_at handle)
  pub there : held (block_at handle) Exclusive ≡ Some block
  pub header : block.handle ≡ handle

-- the block of such a handle isn't held so
pub record WantsBlock (held : Held) (areas handle at : ℕ) (mode : Mode) : Type 0 where
  pub slot : IsSlot areas (block_at handle)
  pub at_is : at ≡ block_at handle
  pub mode_is : mode ≡ Exclusive
  pub missing : held (block_at handle) Exclusive ≡ None

abbrev pub BlockAt : Held → ℕ → ℕ → Result Block ChunkError → Type 0
BlockAt held areas handle (Ok block) = HoldsBlock held areas handle block
BlockAt held areas handle (Err (Need at mode)) = WantsBlock held areas handle at mode
BlockAt held areas handle (Err Stale) = IsSlot areas (block_at handle) → NamesAnother (held (block_at handle) Exclusive) handle
BlockAt held areas handle (Err OutOfMemory) = ⊥
BlockAt held areas handle (Err (Full spare)) = ⊥
BlockAt held areas handle (Err Crowded) = ⊥

-- a page is held exclusively under a handle
pub record HoldsPage (held : Held) (areas handle : ℕ) (page : Contents) : Type 0 where
  pub block : Block
  pub is : HoldsBlock held areas handle block
  pub has : HasPage page block

-- what is held there is no page under this handle
pub record HoldsNoPage (held : Held) (handle : ℕ) : Type 0 where
  pub block : Block
  pub there : held (block_at handle) Exclusive ≡ Some block
  pub none : (block.handle ≢ handle) ⊎ IsNoPage block

abbrev pub PageAt : Held → ℕ → ℕ → Result Contents ChunkError → Type 0
PageAt held areas handle (Ok page) = HoldsPage held areas handle page
PageAt held areas handle (Err (Need at mode)) = WantsBlock held areas handle at mode
PageAt held areas handle (Err Stale) = IsSlot areas (block_at handle) → HoldsNoPage held handle
PageAt held areas handle (Err OutOfMemory) = Unit {0}
PageAt held areas handle (Err (Full spare)) = ⊥
PageAt held areas handle (Err Crowded) = ⊥

-- a dead inode is held exclusively under a handle
pub record HoldsDead (held : Held) (areas handle : ℕ) (inode : Inode) : Type 0 where
  pub block : Block
  pub is : HoldsBlock held areas handle block
  pub has : HasInode inode block
  pub dead : inode.kind ≡ 0

-- what is held there is no dead inode under this handle
pub record HoldsNoDead (held : Held) (handle : ℕ) : Type 0 where
  pub block : Block
  pub there : held (block_at handle) Exclusive ≡ Some block
  pub none : block.handle ≡ handle → (inode : Inode) → HasInode inode block → inode.kind ≢ 0

abbrev pub DeadAt : Held → ℕ → ℕ → Result Inode ChunkError → Type 0
DeadAt held areas handle (Ok inode) = HoldsDead held areas handle inode
DeadAt held areas handle (Err (Need at mode)) = WantsBlock held areas handle at mode
DeadAt held areas handle (Err Stale) = IsSlot areas (block_at handle) → HoldsNoDead held handle
DeadAt held areas handle (Err OutOfMemory) = Unit {0}
DeadAt held areas handle (Err (Full spare)) = ⊥
DeadAt held areas handle (Err Crowded) = ⊥

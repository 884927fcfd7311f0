-- Inodes and pieces under their handles.
use Rattle.std.specs.Prelude.{◌≡◌, ℕ, Some}
use Rattle.bx_layout.specs.declared.block.Block.{Block}
use Rattle.bx_layout.specs.declared.inode.Inode.{Inode}
use Rattle.bx_truth.specs.PageTrees.{Chunks}
use Rattle.bx_truth.specs.Stored.{HasInode}

-- the handle names this inode
pub record IsInodeAt (chunks : Chunks) (handle : ℕ) (inode : Inode) : Type 0 where
  pub block : Block
  pub chunk : chunks handle ≡ Some block
  pub has : HasInode inode block

-- the handle names this block, of a kind
pub record IsBlockAt (chunks : Chunks) (handle kind : ℕ) (block : Block) : Type 0 where
  pub chunk : chunks handle ≡ Some block
  pub kind_is : block.kind ≡ kind

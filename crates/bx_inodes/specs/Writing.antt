-- What writing an inode puts into a draft.
use Rattle.std.specs.Prelude.{◌≡◌, ℕ, List}
use Rattle.bx_layout.specs.declared.block.Block.{Block}
use Rattle.bx_layout.specs.declared.inode.Inode.{Inode}
use Rattle.bx_layout.specs.Blocks.{HasParts}
use Rattle.bx_blink.specs.bx_records.specs.Drafts.{Changed, with_block}
use Rattle.bx_blink.specs.bx_truth.specs.Chunks.{block_at}
use Rattle.bx_blink.specs.bx_truth.specs.Stored.{HasInode}

-- the block is this inode, under this handle
pub record IsInodeBlock (handle : ℕ) (inode : Inode) (block : Block) : Type 0 where
  pub header : block.handle ≡ handle
  pub has : HasInode inode block
  pub parts : HasParts block

-- the inode's block is put, and all others of the draft stay
pub record PutsInode (old new : List Changed) (handle : ℕ) (inode : Inode) : Type 0 where
  pub block : Block
  pub is : IsInodeBlock handle inode block
  pub put : new ≡ with_block old (block_at handle) block

-- A block at a place of a disk.
use Rattle.std.specs.Prelude.{ℕ}
use Rattle.bx_disk.specs.Disks.{Image}
use Rattle.bx_calls.specs.Regions.{ReadsAs}
use Rattle.bx_layout.specs.declared.block.Block.{Block}
use Rattle.bx_layout.specs.Blocks.{HasParts, block_text}

-- the block stands on the disk, from this sector on
pub record BlockStandsAt (image : Image) (disk sector : ℕ) (block : Block) : Type 0 where
  pub is : HasParts block
  pub reads : ReadsAs image disk sector (block_text block)

-- Hints that fit all page trees of a volume.
use Rattle.std.specs.Prelude.{◌≡◌, ℕ, ◌≤◌, ◌⊎◌, Some}
use Rattle.bx_layout.specs.declared.block.Block.{Block}
use Rattle.bx_layout.specs.declared.inode.Inode.{Inode}
use Rattle.bx_layout.specs.Areas.{generation_in}
use Rattle.bx_blink.specs.bx_truth.specs.Chunks.{IsSlot, chunks_of, word_at}
use Rattle.bx_blink.specs.bx_truth.specs.PageTrees.{Node, PageTree, IsTree, IsPageOf}
use Rattle.bx_blink.specs.bx_truth.specs.Stands.{WasGiven}
use Rattle.bx_blink.specs.bx_views.specs.Truths.{Truth, Hints}
use Rattle.bx_inodes.specs.Hints.{HintsFit}
use Rattle.bx_inodes.specs.Inodes.{HoldsInode}

-- The hints fit the page tree of each inode of a truth that has one.
pub record HintsFitAll (areas : ℕ) (hints : Hints) (truth : Truth) : Type 0 where
  pub each : (handle : ℕ) (inode : Inode) (tree : PageTree) → HoldsInode areas truth handle inode → IsTree (chunks_of areas truth) inode.tree tree → HintsFit areas hints truth inode.tree tree

-- No generation falls, and a handle that was given out and is in use now was in use before.
pub record Continues (areas : ℕ) (truth now : Truth) : Type 0 where
  pub given : (block : ℕ) → IsSlot areas block → generation_in (word_at truth block) ≤ generation_in (word_at now block)
  pub used : (handle : ℕ) (block : Block) → chunks_of areas now handle ≡ Some block → WasGiven areas truth handle → (was : Block) × (chunks_of areas truth handle ≡ Some was)

-- a chunk is a page of the tree of the inode with a handle
pub record IsPageUnder (areas : ℕ) (truth : Truth) (handle page : ℕ) : Type 0 where
  pub inode : Inode
  pub holds : HoldsInode areas truth handle inode
  pub tree : PageTree
  pub is : IsTree (chunks_of areas truth) inode.tree tree
  pub node : Node
  pub there : IsPageOf tree node
  pub names : node.handle ≡ page

-- Each chunk stays but those of one inode: itself, the pages of its tree, and pieces.
pub record ChangesOne (areas : ℕ) (truth now : Truth) (handle : ℕ) : Type 0 where
  pub inode : Inode
  pub holds : HoldsInode areas now handle inode
  pub each : (other : ℕ) (block : Block) → chunks_of areas now other ≡ Some block
      → (chunks_of areas truth other ≡ Some block) ⊎ ((other ≡ handle) ⊎ (IsPageUnder areas now handle other ⊎ (block.kind ≡ 3)))

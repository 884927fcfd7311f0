-- What edits of one file's inode and tree leave.
use Rattle.std.specs.Prelude.{◌≡◌, ◌≢◌, ℕ, ◌<◌, Some}
use Rattle.bx_views.specs.bx_layout.specs.declared.block.Block.{Block}
use Rattle.bx_truth.specs.Chunks.{IsChunked, own_block}
use Rattle.bx_truth.specs.PageTrees.{Chunks, Node, PageTree, IsTree, IsPageOf}
use Rattle.bx_views.specs.Truths.{Truth}

-- the areas' own blocks stay, and so do the rules of chunks
pub record SameSlots (areas : ℕ) (truth now : Truth) : Type 0 where
  pub chunked : IsChunked areas now
  pub own : (area : ℕ) → area < areas → now (own_block area) ≡ truth (own_block area)

-- pages of the one tree are pages of the other, by their handles
abbrev pub HasPagesOf : PageTree → PageTree → Type 0
HasPagesOf tree other = (node : Node) → IsPageOf tree node → (page : Node) × IsPageOf other page × (page.handle ≡ node.handle)

-- The tree under a root is anew, with the same pages by their handles, and all chunks but these stay.
pub record TreeAnew (chunks now : Chunks) (root : ℕ) (tree after : PageTree) : Type 0 where
  pub is : IsTree now root after
  pub back : HasPagesOf after tree
  pub forth : HasPagesOf tree after
  pub others : (handle : ℕ) → ((node : Node) → IsPageOf tree node → node.handle ≢ handle) → now handle ≡ chunks handle

-- one chunk has another block, and all others stay
pub record ChunkAnew (chunks now : Chunks) (handle : ℕ) (block : Block) : Type 0 where
  pub here : now handle ≡ Some block
  pub others : (other : ℕ) → other ≢ handle → now other ≡ chunks other

-- A page tree that gets one page more, and keeps its map.
use Rattle.std.specs.Prelude.{◌≡◌, ◌≢◌, ℕ, ◌⊎◌, Some, None}
use Rattle.bx_views.specs.bx_layout.specs.declared.block.Block.{Block}
use Rattle.bx_truth.specs.PageTrees.{Chunks, Node, PageTree, IsTree, IsPageOf, map_of}
use Rattle.bx_truth.specs.Edits.{HasPagesOf}

-- A handle that named nothing names a page of the tree, whose map is the same, and all chunks but the tree's pages stay.
pub record SplitsTree (chunks now : Chunks) (root : ℕ) (tree after : PageTree) (page : ℕ) (block : Block) : Type 0 where
  pub fresh : chunks page ≡ None
  pub here : now page ≡ Some block
  pub kind : block.kind ≡ 2
  pub is : IsTree now root after
  pub map_is : map_of after ≡ map_of tree
  pub new : Node
  pub new_there : IsPageOf after new
  pub new_is : new.handle ≡ page
  pub back : (node : Node) → IsPageOf after node → (node.handle ≡ page) ⊎ ((was : Node) × IsPageOf tree was × (was.handle ≡ node.handle))
  pub forth : HasPagesOf tree after
  pub others : (h : ℕ) → h ≢ page → ((node : Node) → IsPageOf tree node → node.handle ≢ h) → now h ≡ chunks h

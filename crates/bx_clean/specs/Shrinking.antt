-- Page trees that lose pages, and keep their maps.
use Rattle.std.specs.Prelude.{◌≡◌, ◌≢◌, ℕ, ◌+◌, List, [], ◌∷◌, Some, None}
use Rattle.bx_layout.specs.declared.block.Block.{Block}
use Rattle.bx_page.specs.declared.entry.Entry.{Entry}
use Rattle.bx_page.specs.Contents.{Contents}
use Rattle.bx_truth.specs.Chunks.{chunks_of}
use Rattle.bx_truth.specs.Edits.{HasPagesOf}
use Rattle.bx_truth.specs.PageTrees.{Chunks, Node, PageTree, HasPage, IsInterior, IsTree, IsPageOf, handle_in, map_of}
use Rattle.bx_truth.specs.Shown.{KeepsSlots}
use Rattle.bx_views.specs.Truths.{Truth, Hints}
use Rattle.bx_blink.specs.Hints.{HintsFit}

-- The tree under a root has no page that it hadn't, and keeps its map. Each of its pages that is still in use is one still. All other
-- chunks stay, and so do the slots of all. All hints that fitted still fit.
pub record ShrinksTree (areas : ℕ) (truth now : Truth) (root : ℕ) (tree after : PageTree) : Type 0 where
  pub is : IsTree (chunks_of areas now) root after
  pub map_is : map_of after ≡ map_of tree
  pub back : HasPagesOf after tree
  pub forth : (node : Node) → IsPageOf tree node → chunks_of areas now node.handle ≢ None → (page : Node) × IsPageOf after page × (page.handle ≡ node.handle)
  pub others : (handle : ℕ) → ((node : Node) → IsPageOf tree node → node.handle ≢ handle) → chunks_of areas now handle ≡ chunks_of areas truth handle
  pub used : (handle : ℕ) (block : Block) → chunks_of areas now handle ≡ Some block → chunks_of areas truth handle ≢ None
  pub slots : KeepsSlots areas truth now
  pub leads : (hints : Hints) → HintsFit areas hints truth root tree → HintsFit areas hints now root after

-- One chunk has another block, another is gone, and all others stay.
pub record ChunkGone (chunks now : Chunks) (handle gone : ℕ) (block : Block) : Type 0 where
  pub here : now handle ≡ Some block
  pub none : now gone ≡ None
  pub others : (other : ℕ) → other ≢ handle → other ≢ gone → now other ≡ chunks other

-- The root has one entry, which names the first page of the level below it.
pub record HasOneChild (tree : PageTree) (under : ℕ) (top child : Node) (others : List Node) : Type 0 where
  pub height : tree.height ≡ under + 1
  pub top_is : tree.level tree.height ≡ top ∷ []
  pub entry : Entry
  pub entries : top.page.entries ≡ entry ∷ []
  pub level : tree.level under ≡ child ∷ others
  pub names : handle_in entry.value ≡ child.handle

-- A page that may stand in place of two, which are the first of their level: of that level, with the links of the second. As a leaf it has the
-- entries of the second, where the first has none; above the leaves its entries name pages below.
pub record MayReplace (tree : PageTree) (under : ℕ) (child next : Node) (page : Contents) (block : Block) : Type 0 where
  pub has : HasPage page block
  pub level : page.level ≡ child.page.level
  pub right : page.right ≡ next.page.right
  pub high : page.high ≡ next.page.high
  pub leaf : under ≡ 0 → (child.page.entries ≡ []) × (page.entries ≡ next.page.entries)
  pub interior : (below : ℕ) → under ≡ below + 1 → IsInterior (tree.level below) (record { handle = child.handle; begins = child.begins; page = page })

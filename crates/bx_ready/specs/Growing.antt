-- A page tree that gets new pages, and keeps its map.
use Rattle.std.specs.Prelude.{◌≡◌, ◌≢◌, ℕ, ◌⊎◌, Bool, true, false, None}
use Rattle.bx_truth.specs.Edits.{HasPagesOf}
use Rattle.bx_truth.specs.PageTrees.{Chunks, Node, PageTree, IsTree, IsPageOf, map_of}

-- Handles that named nothing name pages of the tree, whose map is the same, and all chunks but the tree's pages stay.
pub record GrowsPages (chunks now : Chunks) (root : ℕ) (tree after : PageTree) (is_new : ℕ → Bool) : Type 0 where
  pub fresh : (h : ℕ) → is_new h ≡ true → chunks h ≡ None
  pub is : IsTree now root after
  pub map_is : map_of after ≡ map_of tree
  pub new_pages : (h : ℕ) → is_new h ≡ true → (node : Node) × IsPageOf after node × (node.handle ≡ h)
  pub back : (node : Node) → IsPageOf after node → (is_new node.handle ≡ true) ⊎ ((was : Node) × IsPageOf tree was × (was.handle ≡ node.handle))
  pub forth : HasPagesOf tree after
  pub others : (h : ℕ) → is_new h ≡ false → ((node : Node) → IsPageOf tree node → node.handle ≢ h) → now h ≡ chunks h

-- Room for an entry in the leaves of a directory's tree, over a view with a draft.
use Rattle.std.specs.Prelude.{ℕ, ◌+◌, ◌≤◌, List}
use Rattle.bx_blink.specs.Places.{IsPlaceOf}
use Rattle.bx_leaves.specs.Leaves.{IsPageNearlyFull}
use Rattle.bx_page.specs.Contents.{Contents, size}
use Rattle.bx_records.specs.Drafts.{Changed}
use Rattle.bx_truth.specs.Chunks.{chunks_of}
use Rattle.bx_truth.specs.Keys.{entry_key, name_key}
use Rattle.bx_truth.specs.PageTrees.{IsTree, PageTree}
use Rattle.bx_views.specs.Truths.{Held, Truth, with_draft}

-- The leaf in whose range a key is has so many bytes left, and as the view holds it, it isn't nearly full.
pub record HasSpace (held : Held) (tree : PageTree) (key : List ℕ) (space : ℕ) : Type 0 where
  pub handle : ℕ
  pub page : Contents
  pub place : IsPlaceOf tree 0 key handle page
  pub room : size page + space ≤ 4096
  pub roomy : IsPageNearlyFull held handle → ⊥

-- The tree under a root has room for two greatest entries, which take 544 bytes, at the key of a name and at that of a number.
pub record HasRooms (areas : ℕ) (held : Held) (truth : Truth) (draft : List Changed) (root : ℕ) (name : List ℕ) (number : ℕ) : Type 0 where
  pub pages : PageTree
  pub is : IsTree (chunks_of areas (with_draft truth draft)) root pages
  pub by_name : HasSpace held pages (name_key name) 544
  pub by_number : HasSpace held pages (entry_key number) 544

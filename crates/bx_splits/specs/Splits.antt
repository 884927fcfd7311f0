-- What splits leave of a tree, for a truth.
use Rattle.std.specs.Prelude.{◌≡◌, ◌≢◌, ℕ, ◌+◌, ◌⊎◌, List, [], ◌∷◌, None, Result, Ok, Err}
use Rattle.std.specs.Int.{w64, to_be_bytes}
use Rattle.bx_page.specs.declared.entry.Entry.{Entry}
use Rattle.bx_page.specs.Contents.{Contents}
use Rattle.bx_records.specs.Drafts.{Changed}
use Rattle.bx_truth.specs.Chunks.{IsChunked, chunks_of}
use Rattle.bx_truth.specs.Edits.{HasPagesOf}
use Rattle.bx_truth.specs.PageTrees.{Node, PageTree, IsPageOf, map_of}
use Rattle.bx_truth.specs.Shown.{KeepsSlots}
use Rattle.bx_truth.specs.Stands.{WasGiven}
use Rattle.bx_views.specs.Truths.{Truth, Held, Hints, with_draft}
use Rattle.bx_chunks.specs.Counting.{free_slots}
use Rattle.bx_blink.specs.declared.error.BlinkError.{BlinkError}
use Rattle.bx_blink.specs.declared.error.BlinkError.TheVariants.{Need, Stale, Full, NoRoom, Absent, Present, OutOfMemory, Crowded}
use Rattle.bx_blink.specs.Hints.{HintsFit, Under}

-- the root above the two pages in which it was cut: one level higher, with an entry for each
abbrev pub root_entries : ℕ → ℕ → List ℕ → List Entry
root_entries left right middle = record { key = []; value = to_be_bytes w64 left } ∷ record { key = middle; value = to_be_bytes w64 right } ∷ []

abbrev pub root_page : Contents → ℕ → ℕ → List ℕ → Contents
root_page page left right middle = record { level = page.level + 1; right = 0; high = None; entries = root_entries left right middle }

-- A draft gives a tree new pages, and the tree keeps its map, for a truth. What a call on the tree rests on holds again, for these hints and
-- for all others that fitted. The new pages' handles named nothing, and were never given out. One page of the tree is rewritten. All other
-- chunks stay, and so do the slots of all.
pub record GrowsTree (areas : ℕ) (held : Held) (hints : Hints) (truth : Truth) (old new : List Changed) (root : ℕ) (tree : PageTree) (changed : ℕ) (IsNew : ℕ → Type 0) : Type 0 where
  pub after : PageTree
  pub under : Under areas held hints truth new root after
  pub map_is : map_of after ≡ map_of tree
  pub fresh : (handle : ℕ) → IsNew handle → chunks_of areas (with_draft truth old) handle ≡ None
  pub never : (handle : ℕ) → IsNew handle → WasGiven areas (with_draft truth old) handle → ⊥
  pub new_pages : (handle : ℕ) → IsNew handle → (page : Node) × IsPageOf after page × (page.handle ≡ handle)
  pub back : (page : Node) → IsPageOf after page → IsNew page.handle ⊎ ((was : Node) × IsPageOf tree was × (was.handle ≡ page.handle))
  pub forth : HasPagesOf tree after
  pub page : Node
  pub page_there : IsPageOf tree page
  pub page_is : page.handle ≡ changed
  pub others : (handle : ℕ) → (IsNew handle → ⊥) → handle ≢ changed → chunks_of areas (with_draft truth new) handle ≡ chunks_of areas (with_draft truth old) handle
  pub leads : (other : Hints) → HintsFit areas other (with_draft truth old) root tree → HintsFit areas other (with_draft truth new) root after
  pub slots : KeepsSlots areas (with_draft truth old) (with_draft truth new)

-- What `split` does to a tree, where it is done: a page that isn't the root gets one new page on its right, and the root two below it.
pub data SplitsPage (areas : ℕ) (held : Held) (hints : Hints) (truth : Truth) (old new : List Changed) (root : ℕ) (tree : PageTree) (handle : ℕ) : Type 0 where
  page : (right : ℕ) → handle ≢ root → GrowsTree areas held hints truth old new root tree handle (λ h. h ≡ right) → SplitsPage areas held hints truth old new root tree handle
  top : (left right : ℕ) → handle ≡ root → GrowsTree areas held hints truth old new root tree handle (λ h. (h ≡ left) ⊎ (h ≡ right)) → SplitsPage areas held hints truth old new root tree handle

-- What `split` does, by the map, of a page of a tree: the map stays. It is never Stale there.
abbrev pub SplitsIn : ℕ → Held → Hints → Truth → List Changed → List Changed → ℕ → PageTree → ℕ → Result Unit BlinkError → Type 0
SplitsIn areas held hints truth old new root tree handle (Ok done) = SplitsPage areas held hints truth old new root tree handle
SplitsIn areas held hints truth old new root tree handle (Err (Full spare)) = IsChunked areas truth → spare ≡ free_slots areas truth
SplitsIn areas held hints truth old new root tree handle (Err (Need at mode)) = Unit {0}
SplitsIn areas held hints truth old new root tree handle (Err Crowded) = Unit {0}
SplitsIn areas held hints truth old new root tree handle (Err OutOfMemory) = Unit {0}
SplitsIn areas held hints truth old new root tree handle (Err Stale) = ⊥
SplitsIn areas held hints truth old new root tree handle (Err (NoRoom leaf)) = ⊥
SplitsIn areas held hints truth old new root tree handle (Err Absent) = ⊥
SplitsIn areas held hints truth old new root tree handle (Err Present) = ⊥

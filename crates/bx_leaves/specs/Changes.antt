-- What the calls that change an entry make of a tree and its map, for a truth.
use Rattle.std.specs.Prelude.{◌≡◌, ◌≢◌, ℕ, ◌<◌, List, length, None, IsSome, Result, Ok, Err}
use Rattle.bx_base.specs.declared.names.Mode.{Mode}
use Rattle.bx_records.specs.Drafts.{Changed}
use Rattle.bx_page.specs.declared.entry.Entry.{Entry}
use Rattle.bx_page.specs.Contents.{Contents, value_of, with_entry}
use Rattle.bx_blink.specs.bx_truth.specs.Chunks.{chunks_of, own_block}
use Rattle.bx_blink.specs.bx_truth.specs.Edits.{HasPagesOf}
use Rattle.bx_blink.specs.bx_truth.specs.PageTrees.{Node, PageTree, IsPageOf, map_of, map_without}
use Rattle.bx_blink.specs.bx_views.specs.Truths.{Truth, Held, Hints, with_draft}
use Rattle.bx_blink.specs.declared.error.BlinkError.{BlinkError}
use Rattle.bx_blink.specs.declared.error.BlinkError.TheVariants.{Need, Stale, Full, NoRoom, Absent, Present, OutOfMemory, Crowded}
use Rattle.bx_blink.specs.Hints.{HintsFit, Under}
use Rattle.bx_blink.specs.Places.{IsPlaceOf}
use Rattle.bx_leaves.specs.Leaves.{HasNoRoom}

-- A draft makes another map of a tree, for a truth. What a call on the tree rests on holds again, for these hints and for all others that
-- fitted. The tree has the same pages by their handles, of which one is rewritten. All other chunks stay, and the areas' own blocks.
pub record MakesMap (areas : ℕ) (held : Held) (hints : Hints) (truth : Truth) (old new : List Changed) (root : ℕ) (tree : PageTree) (map : List Entry) : Type 0 where
  pub after : PageTree
  pub under : Under areas held hints truth new root after
  pub map_is : map_of after ≡ map
  pub page : Node
  pub there : IsPageOf tree page
  pub others : (handle : ℕ) → handle ≢ page.handle → chunks_of areas (with_draft truth new) handle ≡ chunks_of areas (with_draft truth old) handle
  pub back : HasPagesOf after tree
  pub forth : HasPagesOf tree after
  pub leads : (other : Hints) → HintsFit areas other (with_draft truth old) root tree → HintsFit areas other (with_draft truth new) root after
  pub own : (area : ℕ) → area < areas → with_draft truth new (own_block area) ≡ with_draft truth old (own_block area)

-- the leaf in whose range a key is has no room for an entry
pub record IsFullLeaf (held : Held) (tree : PageTree) (key value : List ℕ) (handle : ℕ) : Type 0 where
  pub page : Contents
  pub place : IsPlaceOf tree 0 key handle page
  pub full : HasNoRoom held handle page key value

-- What `insert` does, by the map. In a tree it is never lost.
abbrev pub InsertsIn : ℕ → Held → Hints → Truth → List Changed → List Changed → ℕ → PageTree → List ℕ → List ℕ → Result Unit BlinkError → Type 0
InsertsIn areas held hints truth old new root tree key value (Ok done) =
    (value_of (map_of tree) key ≡ None) × MakesMap areas held hints truth old new root tree (with_entry (map_of tree) key value)
InsertsIn areas held hints truth old new root tree key value (Err Present) = IsSome (value_of (map_of tree) key)
InsertsIn areas held hints truth old new root tree key value (Err (NoRoom handle)) = (value_of (map_of tree) key ≡ None) × IsFullLeaf held tree key value handle
InsertsIn areas held hints truth old new root tree key value (Err Crowded) = (value_of (map_of tree) key ≡ None) × (length old ≡ 16)
InsertsIn areas held hints truth old new root tree key value (Err (Need at mode)) = Unit {0}
InsertsIn areas held hints truth old new root tree key value (Err OutOfMemory) = Unit {0}
InsertsIn areas held hints truth old new root tree key value (Err Stale) = ⊥
InsertsIn areas held hints truth old new root tree key value (Err (Full spare)) = ⊥
InsertsIn areas held hints truth old new root tree key value (Err Absent) = ⊥

-- What `remove` does, by the map. In a tree it is never lost.
abbrev pub RemovesIn : ℕ → Held → Hints → Truth → List Changed → List Changed → ℕ → PageTree → List ℕ → Result Unit BlinkError → Type 0
RemovesIn areas held hints truth old new root tree key (Ok done) =
    IsSome (value_of (map_of tree) key) × MakesMap areas held hints truth old new root tree (map_without (map_of tree) key)
RemovesIn areas held hints truth old new root tree key (Err Absent) = value_of (map_of tree) key ≡ None
RemovesIn areas held hints truth old new root tree key (Err Crowded) = IsSome (value_of (map_of tree) key) × (length old ≡ 16)
RemovesIn areas held hints truth old new root tree key (Err (Need at mode)) = Unit {0}
RemovesIn areas held hints truth old new root tree key (Err OutOfMemory) = Unit {0}
RemovesIn areas held hints truth old new root tree key (Err Stale) = ⊥
RemovesIn areas held hints truth old new root tree key (Err (Full spare)) = ⊥
RemovesIn areas held hints truth old new root tree key (Err (NoRoom leaf)) = ⊥
RemovesIn areas held hints truth old new root tree key (Err Present) = ⊥

-- A block that a change needs isn't held in that mode, and is on a path.
abbrev pub NeedsUnheld : {X : Type 0} → Held → (ℕ → Mode → Type 0) → Result X BlinkError → Type 0
NeedsUnheld held Path (Ok value) = Unit {0}
NeedsUnheld held Path (Err (Need at mode)) = (held at mode ≡ None) × Path at mode
NeedsUnheld held Path (Err Stale) = Unit {0}
NeedsUnheld held Path (Err (Full spare)) = Unit {0}
NeedsUnheld held Path (Err (NoRoom leaf)) = Unit {0}
NeedsUnheld held Path (Err Absent) = Unit {0}
NeedsUnheld held Path (Err Present) = Unit {0}
NeedsUnheld held Path (Err OutOfMemory) = Unit {0}
NeedsUnheld held Path (Err Crowded) = Unit {0}

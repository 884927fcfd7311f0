-- Room for entries in the leaves of page trees: on any content, and for a truth.
use Rattle.std.specs.Prelude.{ℕ, ◌+◌, ◌<◌, ◌≤◌, ◌⊎◌, List, [], Option, Some, None, Result, Ok, Err}
use Rattle.bx_base.specs.declared.names.Mode.{Mode}
use Rattle.bx_blink.specs.Places.{IsPlaceOf}
use Rattle.bx_blink.specs.Walks.{Reads, reads_with}
use Rattle.bx_blink.specs.declared.error.BlinkError.{BlinkError}
use Rattle.bx_blink.specs.declared.error.BlinkError.TheVariants.{Need, Stale, Full, NoRoom, Absent, Present, OutOfMemory, Crowded}
use Rattle.bx_blink.specs.declared.steps.End.TheVariants.{Lost}
use Rattle.bx_chunks.specs.Taking.{OnSlots}
use Rattle.bx_leaves.specs.Leaves.{IsLeafAt, LeafEnds, NeedsLeaf, OnLeafPath}
use Rattle.bx_page.specs.Contents.{Contents, size}
use Rattle.bx_records.specs.Drafts.{Changed}
use Rattle.bx_posts.specs.bx_splits.specs.Splits.{SplitsPage}
use Rattle.bx_truth.specs.PageTrees.{PageTree}
use Rattle.bx_views.specs.Truths.{Truth, Held, Hints}
use Rattle.bx_ready.specs.Spare.{TellsFew}

-- a page has less left than two greatest entries take, which are 544 bytes
abbrev pub IsFull : Contents → Type 0
IsFull page = 4096 < size page + 544

-- the walk to a key lands at a leaf that is held exclusively, and is full, or isn't
pub record LandsFull (reads : Reads) (root : ℕ) (key : List ℕ) (handle : ℕ) : Type 0 where
  pub page : Contents
  pub leaf : IsLeafAt reads root key handle page
  pub full : IsFull page

pub record LandsRoomy (reads : Reads) (root : ℕ) (key : List ℕ) : Type 0 where
  pub handle : ℕ
  pub page : Contents
  pub leaf : IsLeafAt reads root key handle page
  pub room : size page + 544 ≤ 4096

-- what looking for a full leaf answers
abbrev pub FindsFull : Reads → ℕ → List ℕ → Result (Option ℕ) BlinkError → Type 0
FindsFull reads root key (Ok (Some handle)) = LandsFull reads root key handle
FindsFull reads root key (Ok None) = LandsRoomy reads root key
FindsFull reads root key (Err (Need at mode)) = NeedsLeaf reads root key at mode
FindsFull reads root key (Err Stale) = LeafEnds reads root key Lost
FindsFull reads root key (Err OutOfMemory) = Unit {0}
FindsFull reads root key (Err (Full spare)) = ⊥
FindsFull reads root key (Err (NoRoom leaf)) = ⊥
FindsFull reads root key (Err Absent) = ⊥
FindsFull reads root key (Err Present) = ⊥
FindsFull reads root key (Err Crowded) = ⊥

-- the leaf in whose range a key is is full, and a draft splits it
pub record SplitsLeaf (areas : ℕ) (held : Held) (hints : Hints) (truth : Truth) (new : List Changed) (root : ℕ) (tree : PageTree) (key : List ℕ) : Type 0 where
  pub handle : ℕ
  pub page : Contents
  pub place : IsPlaceOf tree 0 key handle page
  pub full : IsFull page
  pub splits : SplitsPage areas held hints truth [] new root tree handle

-- the leaf in whose range a key is has room for two greatest entries
pub record LeafHasRoom (tree : PageTree) (key : List ℕ) : Type 0 where
  pub handle : ℕ
  pub page : Contents
  pub place : IsPlaceOf tree 0 key handle page
  pub room : size page + 544 ≤ 4096

-- What is answered, by the tree: the draft that splits the leaf of a key, where that is full. It is never Stale there, nor Crowded, and where it is
-- Full it tells fewer than 8, and the leaf is full.
abbrev pub SplitsForIn : ℕ → Held → Hints → Truth → ℕ → PageTree → List ℕ → Result (Option (List Changed)) BlinkError → Type 0
SplitsForIn areas held hints truth root tree key (Ok (Some new)) = SplitsLeaf areas held hints truth new root tree key
SplitsForIn areas held hints truth root tree key (Ok None) = LeafHasRoom tree key
SplitsForIn areas held hints truth root tree key (Err (Full spare)) = TellsFew areas truth spare × (LeafHasRoom tree key → ⊥)
SplitsForIn areas held hints truth root tree key (Err (Need at mode)) = Unit {0}
SplitsForIn areas held hints truth root tree key (Err Crowded) = ⊥
SplitsForIn areas held hints truth root tree key (Err OutOfMemory) = Unit {0}
SplitsForIn areas held hints truth root tree key (Err Stale) = ⊥
SplitsForIn areas held hints truth root tree key (Err (NoRoom leaf)) = ⊥
SplitsForIn areas held hints truth root tree key (Err Absent) = ⊥
SplitsForIn areas held hints truth root tree key (Err Present) = ⊥

-- The path: of the walk to the leaf, which is asked for exclusively; and what the next slot near an area needs for a new page.
abbrev pub OnSplitPath : ℕ → ℕ → Held → Hints → ℕ → List ℕ → ℕ → Mode → Type 0
OnSplitPath near areas held hints root key at mode = OnLeafPath (reads_with held hints []) root key at mode ⊎ OnSlots held near areas [] at mode

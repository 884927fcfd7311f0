-- What `post` does: on any content, and to a tree, for a truth.
use Rattle.std.specs.Prelude.{◌≡◌, ◌≢◌, ℕ, ◌+◌, ◌<◌, ◌⊎◌, List, length, Some, None, IfSome, Result, Ok, Err}
use Rattle.std.specs.Int.{w64, to_be_bytes}
use Rattle.bx_base.specs.declared.names.Mode.{Mode}
use Rattle.bx_base.specs.declared.names.Mode.TheVariants.{Shared}
use Rattle.bx_records.specs.Drafts.{Changed}
use Rattle.bx_page.specs.Contents.{Contents, value_of}
use Rattle.bx_truth.specs.Chunks.{IsChunked, block_at}
use Rattle.bx_truth.specs.PageTrees.{Node, PageTree, IsPageOf}
use Rattle.bx_views.specs.Truths.{Truth, Held, Hints}
use Rattle.bx_chunks.specs.Counting.{free_slots}
use Rattle.bx_chunks.specs.Taking.{NoSlots, OnSlots}
use Rattle.bx_blink.specs.declared.error.BlinkError.{BlinkError}
use Rattle.bx_blink.specs.declared.error.BlinkError.TheVariants.{Need, Stale, Full, NoRoom, Absent, Present, OutOfMemory, Crowded}
use Rattle.bx_blink.specs.Places.{IsPlaceOf}
use Rattle.bx_blink.specs.Walks.{Reads, reads_with}
use Rattle.bx_splits.specs.Splits.{GrowsTree}
use Rattle.bx_posts.specs.declared.posting.Posted.{Posted}
use Rattle.bx_posts.specs.declared.posting.Posted.TheVariants.{Put, SplitAlone}
use Rattle.bx_posts.specs.declared.separators.Separator.{Separator}
use Rattle.bx_posts.specs.Parents.{IsParentAt, OnParentPath, ParentOf, PutsInParent}
use Rattle.bx_posts.specs.Separators.{SeparatorAt, ShowsSeparator}

-- a separator is read off a page, and its parent is found
pub record FindsParent (reads : Reads) (root handle : ℕ) (separator : Separator) (parent : ℕ) (page : Contents) : Type 0 where
  pub shows : ShowsSeparator reads handle separator
  pub found : IsParentAt reads root separator.level separator.key parent page

-- it is, and this comes of putting the separator there
pub record PutsThere (held : Held) (reads : Reads) (old new : List Changed) (root handle near areas : ℕ) (result : Result Posted BlinkError) : Type 0 where
  pub separator : Separator
  pub parent : ℕ
  pub page : Contents
  pub finds : FindsParent reads root handle separator parent page
  pub puts : PutsInParent held old new root parent page separator near areas result

-- a separator is read, and its parent isn't found
pub record LacksParent (reads : Reads) (root handle : ℕ) (e : BlinkError) : Type 0 where
  pub separator : Separator
  pub shows : ShowsSeparator reads handle separator
  pub fails : ParentOf reads root separator.level separator.key (Err e)

-- What `post` answers: of a page that can't be read, or whose parent can't, why not, and else what comes of putting the separator.
abbrev pub PostsAt : Held → Hints → List Changed → List Changed → ℕ → ℕ → ℕ → ℕ → Result Posted BlinkError → Type 0
PostsAt held hints old new root handle near areas (Ok posted) = PutsThere held (reads_with held hints old) old new root handle near areas (Ok posted)
PostsAt held hints old new root handle near areas (Err e) =
    SeparatorAt (reads_with held hints old) handle (Err e)
    ⊎ (LacksParent (reads_with held hints old) root handle e ⊎ PutsThere held (reads_with held hints old) old old root handle near areas (Err e))

-- The path of a post: the page's block, shared; what is on the path of the walk to the parent; and what the next slot needs for a new page.
pub data OnPostPath (held : Held) (hints : Hints) (old : List Changed) (root handle near areas : ℕ) : ℕ → Mode → Type 0 where
  page : OnPostPath held hints old root handle near areas (block_at handle) Shared
  parent : (separator : Separator) (at : ℕ) (mode : Mode) → ShowsSeparator (reads_with held hints old) handle separator → OnParentPath (reads_with held hints old) root separator.level separator.key at mode
      → OnPostPath held hints old root handle near areas at mode
  slot : (at : ℕ) (mode : Mode) → OnSlots held near areas old at mode → OnPostPath held hints old root handle near areas at mode

-- What a post needs isn't held in that mode, and is on its path. It is full only where the next slot isn't there.
abbrev pub NeedsForPost : Held → Hints → List Changed → ℕ → ℕ → ℕ → ℕ → Result Posted BlinkError → Type 0
NeedsForPost held hints old root handle near areas (Err (Need at mode)) = (held at mode ≡ None) × OnPostPath held hints old root handle near areas at mode
NeedsForPost held hints old root handle near areas (Err Stale) = Unit {0}
NeedsForPost held hints old root handle near areas (Err (Full spare)) = NoSlots held near areas old spare
NeedsForPost held hints old root handle near areas (Err (NoRoom leaf)) = Unit {0}
NeedsForPost held hints old root handle near areas (Err Absent) = Unit {0}
NeedsForPost held hints old root handle near areas (Err Present) = Unit {0}
NeedsForPost held hints old root handle near areas (Err OutOfMemory) = Unit {0}
NeedsForPost held hints old root handle near areas (Err Crowded) = Unit {0}
NeedsForPost held hints old root handle near areas (Ok posted) = Unit {0}

-- a page of the tree, one level above a page, names its right neighbour at its high key
pub record HasSeparator (tree : PageTree) (node : Node) : Type 0 where
  pub parent : Node
  pub there : IsPageOf tree parent
  pub above : parent.page.level ≡ node.page.level + 1
  pub names : IfSome node.page.high (λ high. value_of parent.page.entries high ≡ Some (to_be_bytes w64 node.page.right))

-- the page, one level above a page, in whose range its high key is has fewer entries than it had
pub record HasLesserParent (before after : PageTree) (node : Node) : Type 0 where
  pub key : List ℕ
  pub high : node.page.high ≡ Some key
  pub was_handle : ℕ
  pub was : Contents
  pub was_there : IsPlaceOf before (node.page.level + 1) key was_handle was
  pub handle : ℕ
  pub page : Contents
  pub there : IsPlaceOf after (node.page.level + 1) key handle page
  pub fewer : length page.entries < length was.entries

-- how far a post came: the separator is there, or its parent has fewer entries, so that it is there after a few calls more
abbrev pub Advances : PageTree → PageTree → Node → Posted → Type 0
Advances before after node Put = HasSeparator after node
Advances before after node SplitAlone = HasLesserParent before after node

-- What `post` does to a tree: its map stays, and one page is rewritten, with no new pages; or one that isn't the root is split, with one
-- new page; or the root, with two below it.
pub data PostsPage (areas : ℕ) (held : Held) (hints : Hints) (truth : Truth) (old new : List Changed) (root : ℕ) (tree : PageTree) (node : Node) (posted : Posted) : Type 0 where
  rewritten : (parent : ℕ) (grows : GrowsTree areas held hints truth old new root tree parent (λ h. ⊥)) → posted ≡ Put → Advances tree grows.after node posted → PostsPage areas held hints truth old new root tree node posted
  page : (parent right : ℕ) (grows : GrowsTree areas held hints truth old new root tree parent (λ h. h ≡ right)) → parent ≢ root → Advances tree grows.after node posted → PostsPage areas held hints truth old new root tree node posted
  top : (left right : ℕ) (grows : GrowsTree areas held hints truth old new root tree root (λ h. (h ≡ left) ⊎ (h ≡ right))) → Advances tree grows.after node posted → PostsPage areas held hints truth old new root tree node posted

-- What `post` does, by the map, of a page of a tree that has a right neighbour: the map stays. It is never Stale there.
abbrev pub PostsIn : ℕ → Held → Hints → Truth → List Changed → List Changed → ℕ → PageTree → Node → Result Posted BlinkError → Type 0
PostsIn areas held hints truth old new root tree node (Ok posted) = PostsPage areas held hints truth old new root tree node posted
PostsIn areas held hints truth old new root tree node (Err (Full spare)) = IsChunked areas truth → spare ≡ free_slots areas truth
PostsIn areas held hints truth old new root tree node (Err (Need at mode)) = Unit {0}
PostsIn areas held hints truth old new root tree node (Err Crowded) = Unit {0}
PostsIn areas held hints truth old new root tree node (Err OutOfMemory) = Unit {0}
PostsIn areas held hints truth old new root tree node (Err Stale) = ⊥
PostsIn areas held hints truth old new root tree node (Err (NoRoom leaf)) = ⊥
PostsIn areas held hints truth old new root tree node (Err Absent) = ⊥
PostsIn areas held hints truth old new root tree node (Err Present) = ⊥

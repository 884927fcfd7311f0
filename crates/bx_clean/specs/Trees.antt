-- A step at a dead file's tree, by what is held.
use Rattle.std.specs.Prelude.{◌≡◌, ◌≢◌, ℕ, ◌<◌, ◌≤◌, false, List, [], length, Some, None, Result, Ok, Err, slice_get}
use Rattle.bx_chunks.specs.Marking.{MarksAt}
use Rattle.bx_chunks.specs.declared.error.ChunkError.{ChunkError}
use Rattle.bx_chunks.specs.declared.error.ChunkError.TheVariants.{OutOfMemory, Stale}
use Rattle.bx_inodes.specs.Writing.{PutsInode}
use Rattle.bx_layout.specs.declared.inode.Inode.{Inode}
use Rattle.bx_page.specs.Contents.{Contents}
use Rattle.bx_page.specs.declared.entry.Entry.{Entry}
use Rattle.bx_records.specs.Drafts.{Changed}
use Rattle.bx_truth.specs.PageTrees.{handle_in}
use Rattle.bx_views.specs.Truths.{Held}
use Rattle.bx_clean.specs.Held.{DeadAt, HoldsDead, HoldsPage, PageAt}
use Rattle.bx_clean.specs.Pages.{AbsorbsNext, CutsFirst, StripsPage}
use Rattle.bx_clean.specs.Puts.{FreesSlotOf, PutsAndFrees}

-- Below a root with one entry: a child that is alone takes the root's place, or a child with a neighbour loses an entry, as a leaf that has
-- some, or takes the neighbour's place.
pub data ShrinksBelow (held : Held) (areas root child : ℕ) (below : Contents) (result : Result (List Changed) ChunkError) : Type 0 where
  lowers : below.right ≡ 0 → PutsAndFrees held areas root below child result → ShrinksBelow held areas root child below result
  cuts_child : below.right ≢ 0 → below.level ≡ 0 → below.entries ≢ [] → CutsFirst held areas child below result → ShrinksBelow held areas root child below result
  absorbs : below.right ≢ 0 → (below.level ≡ 0 → below.entries ≡ []) → AbsorbsNext held areas child below result → ShrinksBelow held areas root child below result

-- A root above the leaves: where it has more entries than one, all but the first go; else what is below it shrinks.
pub data ShrinksAbove (held : Held) (areas root : ℕ) (page : Contents) (result : Result (List Changed) ChunkError) : Type 0 where
  many : 1 < length page.entries → StripsPage root page result → ShrinksAbove held areas root page result
  empty : slice_get page.entries 0 ≡ None → result ≡ Err Stale → ShrinksAbove held areas root page result
  unread : (first : Entry) (error : ChunkError) → length page.entries ≤ 1 → slice_get page.entries 0 ≡ Some first → PageAt held areas (handle_in first.value) (Err error) → result ≡ Err error → ShrinksAbove held areas root page result
  single : (first : Entry) (below : Contents) → length page.entries ≤ 1 → slice_get page.entries 0 ≡ Some first → HoldsPage held areas (handle_in first.value) below
      → ShrinksBelow held areas root (handle_in first.value) below result → ShrinksAbove held areas root page result

-- the inode without its tree
abbrev pub bare_inode : Inode → Inode
bare_inode inode = record inode { tree = 0 }

-- the inode is put without its tree, and the slot of the tree's root is freed
pub data FreesTree (held : Held) (areas handle : ℕ) (inode : Inode) (result : Result (List Changed) ChunkError) : Type 0 where
  no_room : result ≡ Err OutOfMemory → FreesTree held areas handle inode result
  frees_tree : (mid : List Changed) → PutsInode [] mid handle (bare_inode inode) → FreesSlotOf held areas mid inode.tree result → FreesTree held areas handle inode result

-- The tree of a dead inode: it shrinks; or as a leaf alone it loses an entry, or goes where it has none.
pub data CleansTree (held : Held) (areas handle : ℕ) (inode : Inode) (result : Result (List Changed) ChunkError) : Type 0 where
  no_page : (error : ChunkError) → PageAt held areas inode.tree (Err error) → result ≡ Err error → CleansTree held areas handle inode result
  shrinks : (page : Contents) → HoldsPage held areas inode.tree page → 0 < page.level → ShrinksAbove held areas inode.tree page result → CleansTree held areas handle inode result
  cuts_root : (page : Contents) → HoldsPage held areas inode.tree page → page.level ≡ 0 → page.entries ≢ [] → CutsFirst held areas inode.tree page result → CleansTree held areas handle inode result
  ends : (page : Contents) → HoldsPage held areas inode.tree page → page.level ≡ 0 → page.entries ≡ [] → FreesTree held areas handle inode result → CleansTree held areas handle inode result

-- the slot of a dead inode is marked no more, and freed
pub data FreesFile (held : Held) (areas handle : ℕ) (result : Result (List Changed) ChunkError) : Type 0 where
  unmarked : (error : ChunkError) → MarksAt held [] [] handle false (Err error) → result ≡ Err error → FreesFile held areas handle result
  frees_file : (mid : List Changed) → MarksAt held [] mid handle false (Ok tt) → FreesSlotOf held areas mid handle result → FreesFile held areas handle result

-- A dead inode: where it has no tree it goes itself.
pub data CleansFile (held : Held) (areas handle : ℕ) (result : Result (List Changed) ChunkError) : Type 0 where
  no_inode : (error : ChunkError) → DeadAt held areas handle (Err error) → result ≡ Err error → CleansFile held areas handle result
  without_tree : (inode : Inode) → HoldsDead held areas handle inode → inode.tree ≡ 0 → FreesFile held areas handle result → CleansFile held areas handle result
  with_tree : (inode : Inode) → HoldsDead held areas handle inode → inode.tree ≢ 0 → CleansTree held areas handle inode result → CleansFile held areas handle result

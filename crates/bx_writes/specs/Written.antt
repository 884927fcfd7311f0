-- What a draft has of a file's bytes, from its last pieces on.
use Rattle.std.specs.Prelude.{◌≡◌, ℕ, ◌+◌, ◌-◌, ◌*◌, ◌<◌, ◌≤◌, List, Some}
use Rattle.bx_entries.specs.Rooms.{HasSpace}
use Rattle.bx_chunks.specs.Counting.{free_slots}
use Rattle.bx_inodes.specs.Fitting.{HintsFitAll}
use Rattle.bx_inodes.specs.Inodes.{HoldsInode}
use Rattle.bx_layout.specs.declared.block.Block.{Block}
use Rattle.bx_layout.specs.declared.inode.Inode.{Inode}
use Rattle.bx_model.specs.declared.tree.Tree.{Tree}
use Rattle.bx_page.specs.Contents.{value_of}
use Rattle.bx_entries.specs.bx_ready.specs.Rooms.{LeafHasRoom}
use Rattle.bx_records.specs.Drafts.{Changed}
use Rattle.bx_tree_files.specs.declared.file.Body.TheVariants.{Bytes}
use Rattle.bx_tree_files.specs.declared.file.File.{File}
use Rattle.bx_tree_files.specs.Files.{with_file}
use Rattle.bx_truth.specs.Chunks.{chunks_of}
use Rattle.bx_truth.specs.Keys.{content_key}
use Rattle.bx_truth.specs.PageTrees.{IsTree, PageTree, handle_in, map_of}
use Rattle.bx_truth.specs.Stands.{StandsFor}
use Rattle.bx_views.specs.Truths.{Truth, Held, Hints, with_draft}
use Rattle.bx_writes.specs.Bytes.{IsOver}

-- the tree with a file that has these bytes
abbrev pub with_bytes : Tree → File → List ℕ → Tree
with_bytes tree file bytes = record tree { files = with_file tree.files (record file { body = Bytes bytes }) }

-- What a draft leaves of the pieces with an index below one: the entries of the file's tree, the blocks that they name, and space for
-- entries, of which so many that were put take 17 bytes each.
pub record LeavesBelow (areas : ℕ) (held : Held) (truth : Truth) (draft : List Changed) (pages after : PageTree) (first taken : ℕ) : Type 0 where
  pub values : (index : ℕ) → index < first → value_of (map_of after) (content_key index) ≡ value_of (map_of pages) (content_key index)
  pub blocks : (index : ℕ) (value : List ℕ) (block : Block) → index < first → value_of (map_of pages) (content_key index) ≡ Some value → chunks_of areas truth (handle_in value) ≡ Some block
      → chunks_of areas (with_draft truth draft) (handle_in value) ≡ Some block
  pub spaces : (index : ℕ) → index < first → LeafHasRoom pages (content_key index) → HasSpace held after (content_key index) (544 - 17 * taken)

-- The truth with the draft stands for the tree with the file, over whose bytes others are written from a place on. It has this inode, at most
-- so many slots fewer are free, and all hints that fitted still fit.
pub record IsWritten (areas : ℕ) (held : Held) (truth : Truth) (tree : Tree) (handle : ℕ) (file : File) (pages : PageTree) (inode : Inode) (base : List ℕ) (from : ℕ) (written : List ℕ) (first taken : ℕ) (draft : List Changed) : Type 0 where
  pub bytes : List ℕ
  pub over : IsOver base from written bytes
  pub stands : StandsFor areas (with_draft truth draft) (with_bytes tree file bytes)
  pub holds : HoldsInode areas (with_draft truth draft) handle inode
  pub leads : (hints : Hints) → HintsFitAll areas hints truth → HintsFitAll areas hints (with_draft truth draft)
  pub after : PageTree
  pub is : IsTree (chunks_of areas (with_draft truth draft)) inode.tree after
  pub leaves : LeavesBelow areas held truth draft pages after first taken
  pub free : free_slots areas truth ≤ free_slots areas (with_draft truth draft) + taken

-- What READDIR comes to by the directory, and what it asks for.
use Rattle.std.specs.Prelude.{◌≡◌, ℕ, ◌⊎◌, List, [], ◌∷◌, map, Option, Some, None, Result, Ok, Err}
use Rattle.bx_base.specs.declared.names.Mode.{Mode}
use Rattle.bx_base.specs.declared.names.Mode.TheVariants.{Shared}
use Rattle.bx_dirs.specs.bx_blink.specs.Leaves.{EndsAt, IsNextLeaf}
use Rattle.bx_dirs.specs.bx_blink.specs.Runs.{NextAt, OnRun, Runs}
use Rattle.bx_dirs.specs.bx_blink.specs.Walks.{most, reads_with, start}
use Rattle.bx_dirs.specs.Entries.{key_behind}
use Rattle.bx_reads.specs.bx_inodes.specs.declared.stop.Stop.{Stop}
use Rattle.bx_reads.specs.bx_inodes.specs.declared.stop.Stop.TheVariants.{Need, Inner, Status, OutOfMemory}
use Rattle.bx_reads.specs.bx_inodes.specs.Stops.{OnInode}
use Rattle.bx_layout.specs.declared.inode.Inode.{Inode}
use Rattle.bx_model.specs.declared.reply.Reply.{Reply}
use Rattle.bx_model.specs.declared.reply.Reply.TheVariants as replies
use Rattle.bx_model.specs.Directories.{end_of, listed, page}
use Rattle.bx_page.specs.Contents.{Contents, from}
use Rattle.bx_reads.specs.Files.{IsSeen}
use Rattle.bx_tree_files.specs.declared.file.Name.{Name}
use Rattle.bx_tree_files.specs.Entries.{above}
use Rattle.bx_truth.specs.Keys.{entry_key, entry_value}
use Rattle.bx_truth.specs.PageTrees.{PageTree, map_of}
use Rattle.bx_views.specs.Truths.{Held, Hints}

-- The entry behind a number is told, or that there is none, unless a block is needed first or memory ran out. No status comes.
abbrev pub FollowsSo : List Name → ℕ → Result (Option Name) Stop → Type 0
FollowsSo names number (Ok (Some entry)) = above number names ≡ entry ∷ above entry.number names
FollowsSo names number (Ok None) = above number names ≡ []
FollowsSo names number (Err (Need at mode)) = Unit {0}
FollowsSo names number (Err (Inner blocks)) = ⊥
FollowsSo names number (Err (Status status)) = ⊥
FollowsSo names number (Err OutOfMemory) = Unit {0}

-- The next leaf with an entry from a key on is told, or that there is none, unless a block is needed first or memory ran out. No status comes.
abbrev pub LeafSo : PageTree → List ℕ → Result (Option (List ℕ × Contents)) Stop → Type 0
LeafSo tree key (Ok (Some found)) = IsNextLeaf tree key found.0 found.1
LeafSo tree key (Ok None) = from (map_of tree) key ≡ []
LeafSo tree key (Err (Need at mode)) = Unit {0}
LeafSo tree key (Err (Inner blocks)) = ⊥
LeafSo tree key (Err (Status status)) = ⊥
LeafSo tree key (Err OutOfMemory) = Unit {0}

-- the reply that lists the longest run of entries that fits into so many bytes
abbrev pub listing : List Name → ℕ → Reply
listing entries count = replies.List (map listed (page entries count)) (end_of entries (page entries count))

-- a run in the tree under a root finds this entry behind a number
abbrev pub FindsBehind : Held → Hints → ℕ → ℕ → Name → Type 0
FindsBehind held hints root number entry =
    NextAt (Runs (reads_with held hints []) most (key_behind number) (start root Shared)) (Ok (Some (entry_key entry.number, entry_value entry.handle entry.name)))

-- the blocks on the path of the run for the first entry from a key on, from the page with a handle, shared
pub record OnFrom (held : Held) (hints : Hints) (handle : ℕ) (key : List ℕ) (at : ℕ) (mode : Mode) : Type 0 where
  pub asked : Mode
  pub on : OnRun (reads_with held hints []) most key (start handle Shared) at asked
  pub mode_is : mode ≡ Shared

-- those on the path of the run for the entry behind a number
abbrev pub OnBehind : Held → Hints → ℕ → ℕ → ℕ → Mode → Type 0
OnBehind held hints root number at mode = OnFrom held hints root (key_behind number) at mode

-- a run for the first entry from a key on, from the page with a handle, ends at this leaf, with this key
abbrev pub LeadsTo : Held → Hints → ℕ → List ℕ → List ℕ → Contents → Type 0
LeadsTo held hints handle key other leaf = EndsAt (Runs (reads_with held hints []) most key (start handle Shared)) other leaf

-- Where a listing comes to: the root, with the key behind its cookie, and from each leaf that a run leads to the one on its right, with the high
-- key.
pub data IsReached (held : Held) (hints : Hints) (root cookie : ℕ) : ℕ → List ℕ → Type 0 where
  root_first : IsReached held hints root cookie root (key_behind cookie)
  rightward : (handle : ℕ) (key other high : List ℕ) (leaf : Contents) → IsReached held hints root cookie handle key → LeadsTo held hints handle key other leaf → leaf.high ≡ Some high
      → IsReached held hints root cookie leaf.right high

-- the blocks on the path of the runs from there, shared
pub record OnEntries (held : Held) (hints : Hints) (root cookie at : ℕ) (mode : Mode) : Type 0 where
  pub handle : ℕ
  pub key : List ℕ
  pub reached : IsReached held hints root cookie handle key
  pub on : OnFrom held hints handle key at mode

-- those of the directory that a file handle names, by the inode that is seen
pub record OnNames (held : Held) (hints : Hints) (volume areas : ℕ) (bytes : List ℕ) (cookie at : ℕ) (mode : Mode) : Type 0 where
  pub directory : ℕ
  pub inode : Inode
  pub seen : IsSeen held hints volume areas bytes directory inode
  pub on : OnEntries held hints inode.tree cookie at mode

-- the path of READDIR: the inode of the directory that is named, and those
abbrev pub OnListing : Held → Hints → ℕ → ℕ → List ℕ → ℕ → ℕ → Mode → Type 0
OnListing held hints volume areas bytes cookie at mode = OnInode volume bytes Shared at mode ⊎ OnNames held hints volume areas bytes cookie at mode

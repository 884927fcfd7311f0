-- Edits of a file tree over a draft, each of one file, whose inode is read over the draft first.
use Rattle.std.specs.Prelude.{ℕ, ◌≤◌, ◌==◌, ◌⊎◌, Bool, if◌then◌else◌, List, [], Result, Ok, Err}
use Rattle.bx_entries.specs.Entering.{PutsInAt}
use Rattle.bx_entries.specs.Rooms.{HasRooms}
use Rattle.bx_base.specs.declared.names.Mode.{Mode}
use Rattle.bx_base.specs.declared.names.Mode.TheVariants.{Exclusive}
use Rattle.bx_blink.specs.Walks.{reads_with}
use Rattle.bx_changes.specs.declared.error.ChangeError.{ChangeError}
use Rattle.bx_changes.specs.declared.error.ChangeError.TheVariants.{Stopped, Full}
use Rattle.bx_entries.specs.bx_dirs.specs.Changes.{OnAddPath, OnTakePath, entry_of}
use Rattle.bx_entries.specs.Finding.{IsOwnBlock}
use Rattle.bx_entries.specs.Removing.{OnUnlinking}
use Rattle.bx_entries.specs.Taking.{TakesOutAt}
use Rattle.bx_inodes.specs.Fitting.{HintsFitAll}
use Rattle.bx_inodes.specs.Inodes.{HoldsInode, LiveAt}
use Rattle.bx_inodes.specs.Writing.{PutsInode}
use Rattle.bx_inodes.specs.declared.stop.Stop.{Stop}
use Rattle.bx_inodes.specs.declared.stop.Stop.TheVariants.{Need, Inner, Status, OutOfMemory}
use Rattle.bx_layout.specs.declared.inode.Inode.{Inode}
use Rattle.bx_model.specs.declared.tree.Tree.{Tree}
use Rattle.bx_records.specs.Drafts.{Changed}
use Rattle.bx_tree_files.specs.Times.{Time}
use Rattle.bx_truth.specs.Stands.{StandsFor}
use Rattle.bx_views.specs.Truths.{Truth, Held, Hints, IsTruth, with_draft}

-- A truth that agrees with a view stands, with a draft, for a tree, whose page trees all hints fit.
pub record Rests (areas : ℕ) (held : Held) (hints : Hints) (truth : Truth) (draft : List Changed) (tree : Tree) : Type 0 where
  pub few : areas ≤ 64
  pub same : IsTruth held truth
  pub is : StandsFor areas (with_draft truth draft) tree
  pub fit : HintsFitAll areas hints (with_draft truth draft)

-- With another draft it stands for the next tree, and all hints that fitted still fit.
pub record EditedTo (areas : ℕ) (truth : Truth) (old new : List Changed) (next : Tree) : Type 0 where
  pub stands : StandsFor areas (with_draft truth new) next
  pub leads : (hints : Hints) → HintsFitAll areas hints (with_draft truth old) → HintsFitAll areas hints (with_draft truth new)

-- What an edit answers. It is stopped for want of a block or of memory alone.
abbrev pub EditsTo : ℕ → Truth → List Changed → Tree → Result (List Changed) Stop → Type 0
EditsTo areas truth old next (Ok new) = EditedTo areas truth old new next
EditsTo areas truth old next (Err (Need at mode)) = Unit {0}
EditsTo areas truth old next (Err OutOfMemory) = Unit {0}
EditsTo areas truth old next (Err (Status status)) = ⊥
EditsTo areas truth old next (Err (Inner blocks)) = ⊥

-- the same of an edit that may take blocks
abbrev pub GrowsTo : ℕ → Truth → List Changed → Tree → Result (List Changed) ChangeError → Type 0
GrowsTo areas truth old next (Ok new) = EditedTo areas truth old new next
GrowsTo areas truth old next (Err (Stopped (Need at mode))) = Unit {0}
GrowsTo areas truth old next (Err (Stopped OutOfMemory)) = Unit {0}
GrowsTo areas truth old next (Err (Stopped (Status status))) = ⊥
GrowsTo areas truth old next (Err (Stopped (Inner blocks))) = ⊥
GrowsTo areas truth old next (Err (Full spare)) = ⊥

-- the inode of a file that moves into a directory: changed now, and that of a directory has its new parent
abbrev pub settled_inode : ℕ → Time → Inode → Inode
settled_inode parent now inode = record inode { ctime = now; parent = if inode.kind == 2 then parent else inode.parent }

-- room for an entry of a name, in a directory, by whatever inode of it the truth holds
abbrev pub HasRoomFor : ℕ → Held → Truth → List Changed → ℕ → List ℕ → Type 0
HasRoomFor areas held truth draft directory name =
    (inode : Inode) → HoldsInode areas (with_draft truth draft) directory inode → HasRooms areas held truth draft inode.tree name inode.next

-- A draft is made by edits alone, one after the other: an entry is taken out of a directory or put into one, or a file is told of its move; each by the
-- inode that is seen over what the edits before changed. So no page leads elsewhere than in the view, and no file gets another tree.
pub data IsEdited (held : Held) (hints : Hints) (areas : ℕ) : List Changed → Type 0 where
  no_edit : IsEdited held hints areas []
  takes_out : (old new : List Changed) (directory : ℕ) (inode : Inode) (number : ℕ) (name : List ℕ) (counts : Bool) (now : Time) → IsEdited held hints areas old → LiveAt (reads_with held hints old) areas directory Exclusive inode
      → TakesOutAt held hints old new directory inode number name counts now → IsEdited held hints areas new
  puts_in : (old new : List Changed) (directory : ℕ) (inode : Inode) (name : List ℕ) (made : ℕ) (counts : Bool) (now : Time) → IsEdited held hints areas old → LiveAt (reads_with held hints old) areas directory Exclusive inode
      → PutsInAt held hints old new directory inode name made counts now → IsEdited held hints areas new
  moves_file : (old new : List Changed) (handle : ℕ) (inode : Inode) (parent : ℕ) (now : Time) → IsEdited held hints areas old → LiveAt (reads_with held hints old) areas handle Exclusive inode
      → PutsInode old new handle (settled_inode parent now inode) → IsEdited held hints areas new

-- ---- the paths

-- what comes behind the inode of a file, as it is seen over a draft
pub record OnSeen (held : Held) (hints : Hints) (areas : ℕ) (draft : List Changed) (handle : ℕ) (Behind : Inode → ℕ → Mode → Type 0) (at : ℕ) (mode : Mode) : Type 0 where
  pub inode : Inode
  pub live : LiveAt (reads_with held hints draft) areas handle Exclusive inode
  pub on : Behind inode at mode

-- the block of a file's inode, exclusively, and what comes behind it
abbrev pub OnEdit : Held → Hints → ℕ → List Changed → ℕ → (Inode → ℕ → Mode → Type 0) → ℕ → Mode → Type 0
OnEdit held hints areas draft handle Behind at mode = IsOwnBlock handle at mode ⊎ OnSeen held hints areas draft handle Behind at mode

-- of an entry that leaves a directory, of one that comes into one, and of a file that loses a name
abbrev pub OnLeaving : Held → Hints → ℕ → List Changed → ℕ → ℕ → List ℕ → ℕ → Mode → Type 0
OnLeaving held hints areas draft directory number name at mode = OnEdit held hints areas draft directory (λ inode. OnTakePath held hints draft inode.tree number name) at mode

abbrev pub OnComing : Held → Hints → ℕ → List Changed → ℕ → List ℕ → ℕ → ℕ → Mode → Type 0
OnComing held hints areas draft directory name made at mode = OnEdit held hints areas draft directory (λ inode. OnAddPath held hints draft inode.tree (entry_of inode.next name made)) at mode

abbrev pub OnLosing : Held → Hints → ℕ → List Changed → ℕ → ℕ → Mode → Type 0
OnLosing held hints areas draft handle at mode = OnEdit held hints areas draft handle (OnUnlinking handle) at mode

-- CREATE of a name that is there: what it comes to, and its path.
use Rattle.std.specs.Prelude.{◌≡◌, ℕ, ◌⊎◌, true, if◌then◌else◌, List, [], Result, Ok, Err}
use Rattle.bx_base.specs.declared.names.Mode.{Mode}
use Rattle.bx_base.specs.declared.names.Mode.TheVariants.{Exclusive, Shared}
use Rattle.bx_blink.specs.Walks.{reads_with}
use Rattle.bx_changes.specs.Growing.{LeavesTrees, Makes}
use Rattle.bx_inodes.specs.Inodes.{LiveAt}
use Rattle.bx_inodes.specs.declared.stop.Stop.{Stop}
use Rattle.bx_inodes.specs.declared.stop.Stop.TheVariants.{Need, Inner, Status, OutOfMemory}
use Rattle.bx_layout.specs.declared.inode.Inode.{Inode}
use Rattle.bx_model.specs.declared.reply.Reply.{Reply}
use Rattle.bx_model.specs.declared.tree.Tree.{Tree}
use Rattle.bx_model.specs.Steps.{Making}
use Rattle.bx_model.specs.Steps.Step.{Gives}
use Rattle.bx_records.specs.Drafts.{Changed}
use Rattle.bx_sizes.specs.Clearing.{OnClearing}
use Rattle.bx_tree_files.specs.declared.sattr.Sattr.{Sattr}
use Rattle.bx_tree_files.specs.Times.{is_given}
use Rattle.bx_truth.specs.Chunks.{block_at}
use Rattle.bx_views.specs.Truths.{Held, Hints, Truth}
use Rattle.bx_creating.specs.Searching.{FindsEntry}

-- what is answered where the call gives a reply and leaves the tree
abbrev pub GivesIn : Tree → Making → Result Reply Stop → Type 0
GivesIn tree making (Ok reply) = making ≡ Ok (Gives reply tree)
GivesIn tree making (Err (Status status)) = making ≡ Err status
GivesIn tree making (Err (Need at mode)) = Unit {0}
GivesIn tree making (Err (Inner blocks)) = ⊥
GivesIn tree making (Err OutOfMemory) = Unit {0}

-- What is answered where a file has the name: what the procedure comes to, which makes no file; or bytes are to be cleared first, which leaves
-- each tree.
abbrev pub ComesOver : ℕ → ℕ → Truth → Tree → Making → Result (List Changed × Reply) Stop → Type 0
ComesOver volume areas truth tree making (Ok made) = Makes volume areas truth tree making made.0 made.1 0
ComesOver volume areas truth tree making (Err (Status status)) = making ≡ Err status
ComesOver volume areas truth tree making (Err (Need at mode)) = Unit {0}
ComesOver volume areas truth tree making (Err (Inner blocks)) = LeavesTrees areas truth blocks
ComesOver volume areas truth tree making (Err OutOfMemory) = Unit {0}

-- attributes to set of which the size alone is given
abbrev pub size_alone : ℕ → Sattr
size_alone size = record { mode = 4294967295; uid = 4294967295; gid = 4294967295; size = size; atime = (4294967295, 0); mtime = (4294967295, 0) }

-- ---- the path

-- the block of the inode of the file that has the name, exclusively where a size is given, else shared
abbrev pub IsInodeBlock : ℕ → ℕ → ℕ → Mode → Type 0
IsInodeBlock size handle at mode = (at ≡ block_at handle) × (mode ≡ (if is_given size then Exclusive else Shared))

-- where a size is given, and the inode is held, the path of clearing
pub record OnCleared (held : Held) (hints : Hints) (areas size handle at : ℕ) (mode : Mode) : Type 0 where
  pub given : is_given size ≡ true
  pub inode : Inode
  pub live : LiveAt (reads_with held hints []) areas handle Exclusive inode
  pub on : OnClearing held hints inode at mode

abbrev pub OnSizing : Held → Hints → ℕ → ℕ → ℕ → ℕ → Mode → Type 0
OnSizing held hints areas size handle at mode = IsInodeBlock size handle at mode ⊎ OnCleared held hints areas size handle at mode

-- the path from the file on that a search finds under the name
pub record OnExisting (held : Held) (hints : Hints) (areas root : ℕ) (name : List ℕ) (size at : ℕ) (mode : Mode) : Type 0 where
  pub handle : ℕ
  pub finds : FindsEntry held hints root name handle
  pub on : OnSizing held hints areas size handle at mode

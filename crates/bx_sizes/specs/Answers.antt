-- What setting the size of a file answers.
use Rattle.std.specs.Prelude.{◌≡◌, ℕ, ◌<◌, ◌^◌, List, Result, Ok, Err}
use Rattle.bx_changes.specs.Changes.{Changes}
use Rattle.bx_changes.specs.Growing.{LeavesTrees}
use Rattle.bx_inodes.specs.Fitting.{HintsFitAll}
use Rattle.bx_inodes.specs.declared.stop.Stop.{Stop}
use Rattle.bx_inodes.specs.declared.stop.Stop.TheVariants.{Need, Inner, Status, OutOfMemory}
use Rattle.bx_inodes.specs.Inodes.{shown_size}
use Rattle.bx_layout.specs.declared.inode.Inode.{Inode}
use Rattle.bx_model.specs.declared.reply.Reply.{Reply}
use Rattle.bx_model.specs.declared.tree.Tree.{Tree}
use Rattle.bx_model.specs.Steps.{Outcome}
use Rattle.bx_records.specs.Drafts.{Changed}
use Rattle.bx_tree_files.specs.declared.file.File.{File}
use Rattle.bx_tree_files.specs.Files.{size_of, with_file}
use Rattle.bx_truth.specs.Stands.{StandsFor}
use Rattle.bx_truth.specs.Stored.{HasFields}
use Rattle.bx_views.specs.Attempts.{IsHeldDraft}
use Rattle.bx_views.specs.Truths.{Truth, Held, Hints, with_draft}

-- A draft puts a file in the place of the one with its handle, and this is its inode then. All hints that fitted still fit.
pub record PutsFile (areas : ℕ) (truth : Truth) (tree : Tree) (file : File) (draft : List Changed) (inode : Inode) : Type 0 where
  pub stands : StandsFor areas (with_draft truth draft) (record tree { files = with_file tree.files file })
  pub fields : HasFields inode file
  pub size : size_of file.body ≡ shown_size inode
  pub small : size_of file.body < 2 ^ 31
  pub leads : (hints : Hints) → HintsFitAll areas hints truth → HintsFitAll areas hints (with_draft truth draft)

-- What is answered is the file, put; or bytes are to be cleared first, which leaves each tree. No status comes.
abbrev pub SetsSize : ℕ → Truth → Tree → File → Result (List Changed × Inode) Stop → Type 0
SetsSize areas truth tree file (Ok made) = PutsFile areas truth tree file made.0 made.1
SetsSize areas truth tree file (Err (Status status)) = ⊥
SetsSize areas truth tree file (Err (Need at mode)) = Unit {0}
SetsSize areas truth tree file (Err (Inner blocks)) = LeavesTrees areas truth blocks
SetsSize areas truth tree file (Err OutOfMemory) = Unit {0}

-- A draft leaves a tree, and all hints that fitted still fit.
pub record LeavesTree (areas : ℕ) (truth : Truth) (tree : Tree) (draft : List Changed) : Type 0 where
  pub stands : StandsFor areas (with_draft truth draft) tree
  pub leads : (hints : Hints) → HintsFitAll areas hints truth → HintsFitAll areas hints (with_draft truth draft)

-- what a step of clearing answers
abbrev pub Clears : ℕ → Truth → Tree → Result (List Changed) Stop → Type 0
Clears areas truth tree (Ok draft) = LeavesTree areas truth tree draft
Clears areas truth tree (Err (Status status)) = ⊥
Clears areas truth tree (Err (Need at mode)) = Unit {0}
Clears areas truth tree (Err (Inner blocks)) = ⊥
Clears areas truth tree (Err OutOfMemory) = Unit {0}

-- What is answered is what the procedure comes to, or what is to be written first leaves each tree.
abbrev pub IsChangeOr : ℕ → ℕ → Truth → Outcome → Result (List Changed × Reply) Stop → Type 0
IsChangeOr volume areas truth outcome (Ok made) = Changes volume areas truth outcome made.0 made.1
IsChangeOr volume areas truth outcome (Err (Status status)) = outcome ≡ Err status
IsChangeOr volume areas truth outcome (Err (Need at mode)) = Unit {0}
IsChangeOr volume areas truth outcome (Err (Inner blocks)) = LeavesTrees areas truth blocks
IsChangeOr volume areas truth outcome (Err OutOfMemory) = Unit {0}

-- the blocks that are to be written first are held exclusively
abbrev pub HoldsInner : {T : Type 0} → Held → Result T Stop → Type 0
HoldsInner held (Ok made) = Unit {0}
HoldsInner held (Err (Status status)) = Unit {0}
HoldsInner held (Err (Need at mode)) = Unit {0}
HoldsInner held (Err (Inner blocks)) = IsHeldDraft held blocks
HoldsInner held (Err OutOfMemory) = Unit {0}

-- What a procedure answers that changes a tree, and may take blocks for it or want some written first.
use Rattle.std.specs.Prelude.{◌≡◌, ℕ, ◌<◌, true, List, None, Some, Result, Ok, Err}
use Rattle.bx_base.specs.declared.names.Mode.{Mode}
use Rattle.bx_reads.specs.bx_chunks.specs.Counting.{free_slots}
use Rattle.bx_reads.specs.bx_inodes.specs.Fitting.{HintsFitAll}
use Rattle.bx_reads.specs.bx_inodes.specs.Stands.{Stands}
use Rattle.bx_reads.specs.bx_inodes.specs.declared.stop.Stop.TheVariants.{Need, Inner, Status, OutOfMemory}
use Rattle.bx_model.specs.declared.reply.Reply.{Reply}
use Rattle.bx_model.specs.declared.status.TheConstants.{NOSPC}
use Rattle.bx_model.specs.declared.tree.Tree.{Tree}
use Rattle.bx_model.specs.Steps.{Making, Outcome, taken}
use Rattle.bx_places.specs.Places.{is_block}
use Rattle.bx_records.specs.Drafts.{Changed}
use Rattle.bx_views.specs.Attempts.{IsHeldDraft}
use Rattle.bx_views.specs.Truths.{Truth, Held, Hints, with_draft}
use Rattle.bx_changes.specs.declared.error.ChangeError.{ChangeError}
use Rattle.bx_changes.specs.declared.error.ChangeError.TheVariants.{Stopped, Full}
use Rattle.bx_changes.specs.Changes.{Changes}

-- A draft leaves each tree that the truth may stand for, and all hints that fitted still fit.
pub record LeavesTrees (areas : ℕ) (truth : Truth) (draft : List Changed) : Type 0 where
  pub stands : (volume : ℕ) (tree : Tree) → Stands volume areas truth tree → Stands volume areas (with_draft truth draft) tree
  pub leads : (hints : Hints) → HintsFitAll areas hints truth → HintsFitAll areas hints (with_draft truth draft)

-- so many blocks of a volume are free, which are fewer than 8
pub record IsNearlyFull (areas : ℕ) (truth : Truth) (spare : ℕ) : Type 0 where
  pub spare_is : spare ≡ free_slots areas truth
  pub few : spare < 8

-- What is answered is what the procedure comes to: with 8 blocks free, which stand for enough; or NOSPC, with as many as are free, which are
-- fewer.
abbrev pub IsChangeBy : ℕ → ℕ → Truth → (ℕ → Outcome) → Result (List Changed × Reply) ChangeError → Type 0
IsChangeBy volume areas truth outcome (Ok made) = Changes volume areas truth (outcome 8) made.0 made.1
IsChangeBy volume areas truth outcome (Err (Stopped (Status status))) = outcome 8 ≡ Err status
IsChangeBy volume areas truth outcome (Err (Stopped (Need at mode))) = Unit {0}
IsChangeBy volume areas truth outcome (Err (Stopped (Inner blocks))) = LeavesTrees areas truth blocks
IsChangeBy volume areas truth outcome (Err (Stopped OutOfMemory)) = Unit {0}
IsChangeBy volume areas truth outcome (Err (Full spare)) = IsNearlyFull areas truth spare × (outcome spare ≡ Err NOSPC)

-- The reply and the next tree are what the procedure gives by the handle of the file that it makes, or by 0, where it makes none; and the
-- truth that the draft leaves stands for that tree.
pub record Makes (volume areas : ℕ) (truth : Truth) (tree : Tree) (making : Making) (draft : List Changed) (reply : Reply) (made : ℕ) : Type 0 where
  pub next : Tree
  pub comes_to : taken tree made making ≡ Some (reply, next)
  pub stands : Stands volume areas (with_draft truth draft) next

-- The same of a procedure that may make a file: the draft, the reply, and the handle of that file, or 0.
abbrev pub IsMaking : ℕ → ℕ → Truth → Tree → (ℕ → Making) → Result (List Changed × Reply × ℕ) ChangeError → Type 0
IsMaking volume areas truth tree making (Ok made) = Makes volume areas truth tree (making 8) made.0 made.1 made.2
IsMaking volume areas truth tree making (Err (Stopped (Status status))) = making 8 ≡ Err status
IsMaking volume areas truth tree making (Err (Stopped (Need at mode))) = Unit {0}
IsMaking volume areas truth tree making (Err (Stopped (Inner blocks))) = LeavesTrees areas truth blocks
IsMaking volume areas truth tree making (Err (Stopped OutOfMemory)) = Unit {0}
IsMaking volume areas truth tree making (Err (Full spare)) = IsNearlyFull areas truth spare × (making spare ≡ Err NOSPC)

-- a block that is needed is one of the volume that isn't held in the mode, and is on the path
abbrev pub NeedsBy : ℕ → Held → (ℕ → Mode → Type 0) → ChangeError → Type 0
NeedsBy areas held Path (Stopped (Need at mode)) = (is_block areas at ≡ true) × (held at mode ≡ None) × Path at mode
NeedsBy areas held Path (Stopped (Inner blocks)) = Unit {0}
NeedsBy areas held Path (Stopped (Status status)) = Unit {0}
NeedsBy areas held Path (Stopped OutOfMemory) = Unit {0}
NeedsBy areas held Path (Full spare) = Unit {0}

-- what holds of the number that is told where no block is left
abbrev pub IfFull : (ℕ → Type 0) → ChangeError → Type 0
IfFull Holds (Full spare) = Holds spare
IfFull Holds (Stopped stop) = Unit {0}

-- the blocks that are to be written first are held exclusively
abbrev pub HoldsFirst : Held → ChangeError → Type 0
HoldsFirst held (Stopped (Inner blocks)) = IsHeldDraft held blocks
HoldsFirst held (Stopped (Need at mode)) = Unit {0}
HoldsFirst held (Stopped (Status status)) = Unit {0}
HoldsFirst held (Stopped OutOfMemory) = Unit {0}
HoldsFirst held (Full spare) = Unit {0}

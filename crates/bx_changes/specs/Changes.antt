-- What a procedure that changes a tree answers.
use Rattle.std.specs.Prelude.{◌≡◌, ℕ, List, [], ◌∷◌, Result, Ok, Err}
use Rattle.bx_base.specs.declared.names.Mode.{Mode}
use Rattle.bx_base.specs.declared.names.Mode.TheVariants.{Exclusive}
use Rattle.bx_reads.specs.bx_inodes.specs.Stands.{Stands}
use Rattle.bx_reads.specs.bx_inodes.specs.declared.stop.Stop.{Stop}
use Rattle.bx_reads.specs.bx_inodes.specs.declared.stop.Stop.TheVariants.{Need, Inner, Status, OutOfMemory}
use Rattle.bx_layout.specs.declared.block.Block.{Block}
use Rattle.bx_model.specs.declared.reply.Reply.{Reply}
use Rattle.bx_model.specs.declared.tree.Tree.{Tree}
use Rattle.bx_model.specs.Steps.{Outcome}
use Rattle.bx_records.specs.Drafts.{Changed}
use Rattle.bx_views.specs.Truths.{Truth, with_draft}

-- The reply is what the procedure comes to, and the truth that the draft leaves stands for the next tree.
pub record Changes (volume areas : ℕ) (truth : Truth) (outcome : Outcome) (draft : List Changed) (reply : Reply) : Type 0 where
  pub next : Tree
  pub comes_to : outcome ≡ Ok (reply, next)
  pub stands : Stands volume areas (with_draft truth draft) next

-- what is answered is what the procedure comes to
abbrev pub IsChange : ℕ → ℕ → Truth → Tree → Outcome → Result (List Changed × Reply) Stop → Type 0
IsChange volume areas truth tree outcome (Ok made) = Changes volume areas truth outcome made.0 made.1
IsChange volume areas truth tree outcome (Err (Status status)) = outcome ≡ Err status
IsChange volume areas truth tree outcome (Err (Need at mode)) = Unit {0}
IsChange volume areas truth tree outcome (Err (Inner blocks)) = ⊥
IsChange volume areas truth tree outcome (Err OutOfMemory) = Unit {0}

-- one block is changed, which is on the path exclusively
pub record IsOneBlock (Path : ℕ → Mode → Type 0) (draft : List Changed) : Type 0 where
  pub at : ℕ
  pub block : Block
  pub is : draft ≡ (at, block) ∷ []
  pub on : Path at Exclusive

-- no block is needed
abbrev pub NeedsNothing : {T : Type 0} → Result T Stop → Type 0
NeedsNothing (Ok made) = Unit {0}
NeedsNothing (Err (Need at mode)) = ⊥
NeedsNothing (Err (Inner blocks)) = Unit {0}
NeedsNothing (Err (Status status)) = Unit {0}
NeedsNothing (Err OutOfMemory) = Unit {0}

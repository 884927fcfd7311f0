-- What an attempt of a call that changes the file tree says.
use Rattle.std.specs.Prelude.{ℕ, List}
use Rattle.bx_chunks.specs.Counting.{free_slots}
use Rattle.bx_model.specs.declared.call.Call.{Call}
use Rattle.bx_model.specs.declared.tree.Tree.{Tree}
use Rattle.bx_nfs.specs.Wire.{ReadsAs}
use Rattle.bx_steps.specs.Steps.{StandsWith, StepOfTree}
use Rattle.bx_views.specs.Attempts.{Gives, IfChange, IfInner, IsFair}
use Rattle.bx_views.specs.Truths.{Held, Hints, IsTruth, Truth}
use Rattle.bx_views.specs.declared.attempt.Attempt.{Attempt}
use Rattle.bx_attempts.specs.First.{PreparesFirst, ReadyBy}
use Rattle.bx_attempts.specs.Full.{TellsFull}
use Rattle.bx_attempts.specs.Paths.{ChangePathOf}

-- Over a truth that stands for a tree a change and an answer are one step of the tree; blocks to be written first leave it, and come only where the call comes to no error and lacks
-- them; a change comes only where nothing is lacking. Over any view a block that is needed isn't held and is on the call's path, what is changed is held, and fewer free blocks than 8 are
-- told only where no slot is left.
pub record IsAttemptOf (volume areas : ℕ) (held : Held) (hints : Hints) (xid : ℕ) (call : Call) (moment : ℕ) (attempt : Attempt) : Type 0 where
  pub gives : (client : ℕ) (bytes : List ℕ) (truth : Truth) (tree : Tree) → ReadsAs bytes xid call → IsTruth held truth → StandsWith volume areas truth hints tree
      → Gives (StandsWith volume areas) StepOfTree (free_slots areas truth) client bytes moment truth tree attempt
  pub lacks : (truth : Truth) (tree : Tree) → IsTruth held truth → StandsWith volume areas truth hints tree → IfInner (PreparesFirst volume areas held hints truth tree call moment) attempt
  pub ready : (truth : Truth) (tree : Tree) → IsTruth held truth → StandsWith volume areas truth hints tree → IfChange (ReadyBy volume areas truth tree call.procedure call.args) attempt
  pub fair : IsFair areas held (ChangePathOf held hints volume areas call.procedure call.args) attempt
  pub full : TellsFull held hints volume areas call.args attempt

-- What a draft comes to that is made for a procedure that may want blocks written first.
use Rattle.std.specs.Prelude.{◌≡◌, ℕ, List, Result, Ok, Err}
use Rattle.bx_changes.specs.declared.error.ChangeError.{ChangeError}
use Rattle.bx_changes.specs.declared.error.ChangeError.TheVariants.{Stopped, Full}
use Rattle.bx_changes.specs.Growing.{IsNearlyFull, LeavesTrees}
use Rattle.bx_inodes.specs.Fitting.{HintsFitAll}
use Rattle.bx_inodes.specs.declared.stop.Stop.TheVariants.{Need, Inner, Status, OutOfMemory}
use Rattle.bx_model.specs.declared.reply.Reply.TheVariants as reply
use Rattle.bx_model.specs.declared.status.TheConstants.{NOSPC}
use Rattle.bx_model.specs.declared.tree.Tree.{Tree}
use Rattle.bx_model.specs.Steps.{Outcome}
use Rattle.bx_records.specs.Drafts.{Changed}
use Rattle.bx_truth.specs.Stands.{StandsFor}
use Rattle.bx_views.specs.Truths.{Hints, Truth, with_draft}

-- The truth with the draft stands for the tree, and all hints that fitted still fit.
pub record Leaves (areas : ℕ) (truth : Truth) (new : List Changed) (next : Tree) : Type 0 where
  pub stands : StandsFor areas (with_draft truth new) next
  pub leads : (hints : Hints) → HintsFitAll areas hints truth → HintsFitAll areas hints (with_draft truth new)

-- a procedure comes to a tree, with the status 0 alone, and a draft leaves it
pub record ComesSo (areas : ℕ) (truth : Truth) (outcome : Outcome) (new : List Changed) : Type 0 where
  pub next : Tree
  pub comes_to : outcome ≡ Ok (reply.Status 0, next)
  pub leaves : Leaves areas truth new next

-- it comes to no error
abbrev pub MeetsNone : Outcome → Type 0
MeetsNone outcome = (status : ℕ) → outcome ≡ Err status → ⊥

-- What is answered is what the procedure comes to: with 8 blocks free, which stand for enough; or NOSPC, with as many as are free, which are
-- fewer. Blocks are to be written first only where it comes to no error with 8 blocks free.
abbrev pub ComesBy : ℕ → Truth → (ℕ → Outcome) → Result (List Changed) ChangeError → Type 0
ComesBy areas truth outcome (Ok new) = ComesSo areas truth (outcome 8) new
ComesBy areas truth outcome (Err (Stopped (Status status))) = outcome 8 ≡ Err status
ComesBy areas truth outcome (Err (Stopped (Need at mode))) = Unit {0}
ComesBy areas truth outcome (Err (Stopped (Inner blocks))) = LeavesTrees areas truth blocks × MeetsNone (outcome 8)
ComesBy areas truth outcome (Err (Stopped OutOfMemory)) = Unit {0}
ComesBy areas truth outcome (Err (Full spare)) = IsNearlyFull areas truth spare × (outcome spare ≡ Err NOSPC)

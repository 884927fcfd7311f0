use Rattle.std.proofs.Common.{◌⊎◌, ℕ, IfOk, sym, subst, ◌∙◌}
use Rattle.std.specs.Prelude.{IfErr, OnOk}
use Rattle.bx_audit.specs.Blocks.{IsTornBlock, StandForNoTree}
use Rattle.bx_audit.proofs.Walked.{unit_walked}
use Rattle.bx_audit_owners.specs.Walks.{IsWalkedOn}
use Rattle.bx_overlay.proofs.Moved.{moved}
use Rattle.bx_homes.specs.Slots.{AreBlocks}
use Rattle.bx_layout.specs.declared.block.Block.{Block}
use Rattle.bx_overlay.specs.Refusals.{IsBreak}
use Rattle.bx_truth.specs.Stands.{StandsFor}
use Rattle.bx_views.specs.Truths.{Truth}
use Rattle.bx_audit.proofs.blocks.tree_in.Goals as goal

pub returns-clause-any : goal.returns-clause-any
returns-clause-any g c = λ tells.
    moved g.R.Rack.state (λ (st : ℕ → Block → Type 0). IsWalkedOn (Unit {0}) c.args.read.now.members.areas st c.args.walked → IfOk c.tree_of.result (λ tree. (truth : Truth) → AreBlocks c.args.read.now.members.areas st truth → StandsFor c.args.read.now.members.areas truth tree))
    _ _ _ _ _ _ c.new-blocks.ensures.rack c.new-blocks.ensures.members (c.new-blocks.ensures.logs ∙ c.items.ensures)
    (λ started. c.tree_of.ensures.any (subst (λ r. g.R.Rack.tells r) (sym c.new-blocks.ensures.rack) tells) (unit_walked _ _ _ c.args.walked started))

pub returns-clause-there : goal.returns-clause-there
returns-clause-there g c = λ tells.
    moved g.R.Rack.state (λ (st : ℕ → Block → Type 0). OnOk c.tree_of.result ((truth : Truth) × AreBlocks c.args.read.now.members.areas st truth))
    _ _ _ _ _ _ c.new-blocks.ensures.rack c.new-blocks.ensures.members (c.new-blocks.ensures.logs ∙ c.items.ensures)
    (c.tree_of.ensures.there (subst (λ r. g.R.Rack.tells r) (sym c.new-blocks.ensures.rack) tells))

pub returns-clause-err : goal.returns-clause-err
returns-clause-err g c = λ tells.
    moved g.R.Rack.state (λ (st : ℕ → Block → Type 0). IsWalkedOn (Unit {0}) c.args.read.now.members.areas st c.args.walked → IfErr c.tree_of.result (λ error. IsBreak error ⊎ (IsTornBlock c.args.read.now.members.areas st error × StandForNoTree c.args.read.now.members.areas st)))
    _ _ _ _ _ _ c.new-blocks.ensures.rack c.new-blocks.ensures.members (c.new-blocks.ensures.logs ∙ c.items.ensures)
    (λ started. c.tree_of.ensures.err (subst (λ r. g.R.Rack.tells r) (sym c.new-blocks.ensures.rack) tells) (unit_walked _ _ _ c.args.walked started))

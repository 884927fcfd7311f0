use Rattle.std.proofs.Common.{ℕ, IfOk, sym, subst, ◌∙◌}
use Rattle.bx_audit.specs.Blocks.{StandForNoTree}
use Rattle.bx_audit.specs.Walked.{AreHeaded}
use Rattle.bx_audit_owners.specs.Holding.{holdings_of}
use Rattle.bx_audit_owners.specs.Walks.{IsWalked, IsWrongMet}
use Rattle.bx_audit_pages.specs.Errors.{IfTorn}
use Rattle.bx_layout.specs.declared.block.Block.{Block}
use Rattle.bx_overlay.proofs.Moved.{moved}
use Rattle.bx_truth.specs.PageTrees.{Chunks}
use Rattle.bx_audit.proofs.walks.walk_in.Goals as goal

pub returns-clause-ok : goal.returns-clause-ok
returns-clause-ok g c = λ tells.
    moved g.R.Rack.state (λ (st : ℕ → Block → Type 0). (chunks : Chunks) → AreHeaded c.args.read.now.members.areas st chunks → IfOk c.walk_of.result (λ walked. IsWalked chunks (holdings_of walked.holders) walked.tree.files))
    _ _ _ _ _ _ c.new-blocks.ensures.rack c.new-blocks.ensures.members (c.new-blocks.ensures.logs ∙ c.items.ensures)
    (c.walk_of.ensures.ok (subst (λ r. g.R.Rack.tells r) (sym c.new-blocks.ensures.rack) tells))

pub returns-clause-torn : goal.returns-clause-torn
returns-clause-torn g c = λ tells.
    moved g.R.Rack.state (λ (st : ℕ → Block → Type 0). (chunks : Chunks) → AreHeaded c.args.read.now.members.areas st chunks → IfTorn c.walk_of.result (λ at found wanted. IsWrongMet chunks wanted))
    _ _ _ _ _ _ c.new-blocks.ensures.rack c.new-blocks.ensures.members (c.new-blocks.ensures.logs ∙ c.items.ensures)
    (c.walk_of.ensures.torn (subst (λ r. g.R.Rack.tells r) (sym c.new-blocks.ensures.rack) tells))

pub returns-clause-none : goal.returns-clause-none
returns-clause-none g c = λ tells.
    moved g.R.Rack.state (λ (st : ℕ → Block → Type 0). IfTorn c.walk_of.result (λ at found wanted. StandForNoTree c.args.read.now.members.areas st))
    _ _ _ _ _ _ c.new-blocks.ensures.rack c.new-blocks.ensures.members (c.new-blocks.ensures.logs ∙ c.items.ensures)
    (c.walk_of.ensures.none (subst (λ r. g.R.Rack.tells r) (sym c.new-blocks.ensures.rack) tells))

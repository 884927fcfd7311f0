use Rattle.std.proofs.Common.{ℕ, IfOk, sym, subst, ◌∙◌}
use Rattle.bx_audit_owners.specs.bx_audit_slots.specs.Numbers.{IsToldOf}
use Rattle.bx_layout.specs.declared.block.Block.{Block}
use Rattle.bx_overlay.proofs.Moved.{moved}
use Rattle.bx_audit.proofs.links.block_in.Goals as goal

pub returns-clause-tells : goal.returns-clause-tells
returns-clause-tells g c = λ tells.
    moved g.R.Rack.state (λ (st : ℕ → Block → Type 0). IfOk c.block_on.result (λ told. IsToldOf c.args.read.now.members.areas st c.args.handle told.0 told.1))
    _ _ _ _ _ _ c.new-blocks.ensures.rack c.new-blocks.ensures.members (c.new-blocks.ensures.logs ∙ c.items.ensures)
    (c.block_on.ensures.tells (subst (λ r. g.R.Rack.tells r) (sym c.new-blocks.ensures.rack) tells))

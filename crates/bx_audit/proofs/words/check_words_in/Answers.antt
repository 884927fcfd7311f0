use Rattle.std.proofs.Common.{◌⊎◌, ℕ, sym, subst, ◌∙◌}
use Rattle.std.specs.Prelude.{IfErr, OnOk}
use Rattle.bx_audit.specs.Walked.{TellsSlot}
use Rattle.bx_audit_owners.specs.Holding.{holdings_of}
use Rattle.bx_audit_owners.specs.Words.{AreWorded}
use Rattle.bx_layout.specs.declared.block.Block.{Block}
use Rattle.bx_overlay.proofs.Moved.{moved}
use Rattle.bx_overlay.specs.Refusals.{IsBreak}
use Rattle.bx_audit.proofs.words.check_words_in.Goals as goal

pub returns-clause-ok : goal.returns-clause-ok
returns-clause-ok g c = λ tells.
    moved g.R.Rack.state (λ (st : ℕ → Block → Type 0). OnOk c.check_words_on.result (AreWorded c.args.read.now.members.areas st (holdings_of c.args.walked.now.holders)))
    _ _ _ _ _ _ c.new-blocks.ensures.rack c.new-blocks.ensures.members (c.new-blocks.ensures.logs ∙ c.items.ensures)
    (c.check_words_on.ensures.ok (subst (λ r. g.R.Rack.tells r) (sym c.new-blocks.ensures.rack) tells))

pub returns-clause-err : goal.returns-clause-err
returns-clause-err g c = λ tells.
    moved g.R.Rack.state (λ (st : ℕ → Block → Type 0). IfErr c.check_words_on.result (λ error. IsBreak error ⊎ TellsSlot c.args.read.now.members.areas st (holdings_of c.args.walked.now.holders) error))
    _ _ _ _ _ _ c.new-blocks.ensures.rack c.new-blocks.ensures.members (c.new-blocks.ensures.logs ∙ c.items.ensures)
    (c.check_words_on.ensures.err (subst (λ r. g.R.Rack.tells r) (sym c.new-blocks.ensures.rack) tells))

use Rattle.std.proofs.Common.{◌≡◌, ◌⊎◌, ℕ, Err, inl, inr, refl, subst, sym}
use Rattle.bx_audit.specs.Blocks.{error_of}
use Rattle.bx_audit.specs.Walked.{TellsSlot}
use Rattle.bx_audit.proofs.Trees.{counts_of}
use Rattle.bx_audit_owners.specs.Holding.{Holdings, holdings_of}
use Rattle.bx_audit_owners.specs.Words.{IsFirstWrongAt}
use Rattle.bx_audit_pages.specs.declared.error.AuditError.{AuditError as TreeError}
use Rattle.bx_audit_pages.specs.declared.error.AuditError.TheVariants.{Torn as TornTree, Fault as TreeFault, OutOfMemory as OutOfTreeMemory}
use Rattle.bx_audit_pages.specs.Errors.{IfTornError}
use Rattle.bx_layout.specs.declared.block.Block.{Block}
use Rattle.bx_overlay.specs.declared.error.AuditError.{AuditError}
use Rattle.bx_overlay.specs.Refusals.{IsBreak, UnlessFault}
use Rattle.bx_audit.proofs.words.check_words_on.Goals as goal

slot_of : (areas : ℕ) (stands : ℕ → Block → Type 0) (holdings : Holdings) (error : TreeError) → IfTornError error (IsFirstWrongAt areas stands holdings) → IsBreak (error_of error) ⊎ TellsSlot areas stands holdings (error_of error)
slot_of areas stands holdings (TornTree at found wanted) torn = inr record { at = at; found = found; wanted = wanted; error_is = refl; torn = torn }
slot_of areas stands holdings TreeFault torn = inl (inl refl)
slot_of areas stands holdings OutOfTreeMemory torn = inl (inr refl)

pub returns-in-Err-clause-err : goal.returns-in-Err-clause-err
returns-in-Err-clause-err g c = λ tells.
    subst (λ (e : AuditError). IsBreak e ⊎ TellsSlot c.args.areas (g.B.Blocks.stands c.args.blocks.now) (holdings_of c.args.walked.now.holders) e) (sym c.audit_error.ensures)
    (slot_of c.args.areas (g.B.Blocks.stands c.args.blocks.now) (holdings_of c.args.walked.now.holders) c.in-Err.error (c.in-Err.ensures.torn tells))

pub returns-in-Err-clause-counts : goal.returns-in-Err-clause-counts
returns-in-Err-clause-counts g c =
    subst (λ (e : AuditError). UnlessFault {A = Unit {0}} (Err e) (g.B.Blocks.faults c.check_words.new.blocks ≡ g.B.Blocks.faults c.args.blocks.now)) (sym c.audit_error.ensures)
    (counts_of (Unit {0}) c.in-Err.error (g.B.Blocks.faults c.args.blocks.now) (g.B.Blocks.faults c.args.blocks.now) (g.B.Blocks.faults c.check_words.new.blocks) refl c.in-Err.ensures.blocks.counts)

use Rattle.std.proofs.Common.{◌≡◌, ◌⊎◌, Err, subst, sym}
use Rattle.bx_audit.specs.Blocks.{IsTornBlock, StandForNoTree}
use Rattle.bx_audit.proofs.Trees.{a_truth, all_torn, counts_of, end_of, is_told}
use Rattle.bx_audit.proofs.Walked.{still_walked}
use Rattle.bx_audit_owners.specs.Whole.{StandsForNone}
use Rattle.bx_homes.specs.Slots.{AreBlocks}
use Rattle.bx_homes.proofs.Sectors.{of_none}
use Rattle.bx_overlay.specs.declared.error.AuditError.{AuditError}
use Rattle.bx_overlay.specs.Refusals.{IsBreak, UnlessFault}
use Rattle.bx_views.specs.Truths.{Truth}
use Rattle.bx_model.specs.declared.tree.Tree.{Tree}
use Rattle.bx_audit.proofs.blocks.tree_of.Goals as goal

pub returns-in-Ok-clause-there : goal.returns-in-Ok-clause-there
returns-in-Ok-clause-there g c = λ tells. a_truth c.args.areas (g.B.Blocks.stands c.args.blocks.now) (of_none c.in_ok-at.field-0 c.in_default.is (c.in_ok-at.ensures.there tells))

pub returns-in-Err-clause-err : goal.returns-in-Err-clause-err
returns-in-Err-clause-err g c = λ tells started.
    let still = still_walked (g.B.Blocks.tells c.args.blocks.now) (g.B.Blocks.tells c.first_fault.new.blocks) c.args.areas (g.B.Blocks.stands c.args.blocks.now) (g.B.Blocks.stands c.first_fault.new.blocks) c.args.walked tells
    (c.in_ok-at.ensures.stays tells) started in
    let some = a_truth c.args.areas (g.B.Blocks.stands c.args.blocks.now) (of_none c.in_ok-at.field-0 c.in_default.is (c.in_ok-at.ensures.there tells)) in
    let right = λ (truth : Truth) (are : AreBlocks c.args.areas (g.B.Blocks.stands c.args.blocks.now) truth). of_none c.in_ok-at.field-0 c.in_default.is (c.in_ok-at.ensures.none tells) truth are in
    let told = λ (truth : Truth) (are : AreBlocks c.args.areas (g.B.Blocks.stands c.args.blocks.now) truth). is_told (g.B.Blocks.tells c.args.blocks.now) (g.B.Blocks.tells c.first_fault.new.blocks) c.args.areas (g.B.Blocks.stands c.args.blocks.now)
    (g.B.Blocks.stands c.first_fault.new.blocks) truth tells c.in_ok-at.ensures.blocks.keeps_telling c.in_ok-at.ensures.stays are (right truth are) in
    subst (λ (e : AuditError). IsBreak e ⊎ (IsTornBlock c.args.areas (g.B.Blocks.stands c.args.blocks.now) e × StandForNoTree c.args.areas (g.B.Blocks.stands c.args.blocks.now))) (sym c.audit_error.ensures)
    (end_of c.args.areas (g.B.Blocks.stands c.args.blocks.now) some.0 (StandForNoTree c.args.areas (g.B.Blocks.stands c.args.blocks.now)) c.in-Err.error some.1 (right some.0 some.1) (c.in-Err.ensures.tells some.0 (told some.0 some.1) still)
    (all_torn c.in-Err.error (AreBlocks c.args.areas (g.B.Blocks.stands c.args.blocks.now)) (StandsForNone c.args.areas) (λ truth are. c.in-Err.ensures.torn truth (told truth are) still)))

pub returns-in-Err-clause-counts : goal.returns-in-Err-clause-counts
returns-in-Err-clause-counts g c =
    subst (λ (e : AuditError). UnlessFault {A = Tree} (Err e) (g.B.Blocks.faults c.tree_on.new.blocks ≡ g.B.Blocks.faults c.args.blocks.now)) (sym c.audit_error.ensures)
    (counts_of Tree c.in-Err.error (g.B.Blocks.faults c.args.blocks.now) (g.B.Blocks.faults c.first_fault.new.blocks) (g.B.Blocks.faults c.tree_on.new.blocks) c.in_ok-at.ensures.blocks.no_fault c.in-Err.ensures.blocks.counts)

pub returns-in-Ok-clause-any : goal.returns-in-Ok-clause-any
returns-in-Ok-clause-any g c = λ tells started truth are.
    c.in-Ok.ensures.ok truth
    (is_told (g.B.Blocks.tells c.args.blocks.now) (g.B.Blocks.tells c.first_fault.new.blocks) c.args.areas (g.B.Blocks.stands c.args.blocks.now) (g.B.Blocks.stands c.first_fault.new.blocks) truth tells
    c.in_ok-at.ensures.blocks.keeps_telling c.in_ok-at.ensures.stays are (of_none c.in_ok-at.field-0 c.in_default.is (c.in_ok-at.ensures.none tells) truth are))
    (still_walked (g.B.Blocks.tells c.args.blocks.now) (g.B.Blocks.tells c.first_fault.new.blocks) c.args.areas (g.B.Blocks.stands c.args.blocks.now) (g.B.Blocks.stands c.first_fault.new.blocks) c.args.walked tells
    (c.in_ok-at.ensures.stays tells) started)

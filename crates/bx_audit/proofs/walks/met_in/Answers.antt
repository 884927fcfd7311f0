use Rattle.std.proofs.Common.{inr, refl, subst}
use Rattle.bx_audit.specs.Blocks.{blocks_of}
use Rattle.bx_audit_owners.specs.bx_audit_slots.specs.Numbers.{IsToldOf}
use Rattle.bx_audit.proofs.Walked.{of_torn}
use Rattle.bx_disk.specs.Disks.{Disks}
use Rattle.bx_audit.proofs.walks.met_in.Goals as goal

pub returns-in_ok-at-in-Err-Torn-clause-err : goal.returns-in_ok-at-in-Err-Torn-clause-err
returns-in_ok-at-in-Err-Torn-clause-err g c = λ tells.
    let read = c.args.read.now in
    inr (
      record {
        at = c.in_ok-at-in-Err-Torn.at;
        found = c.in_ok-at-in-Err-Torn.found;
        wanted = c.in-Err-Torn.wanted;
        error_is = refl;
        told = subst (λ (d : Disks). IsToldOf read.members.areas (blocks_of d read) c.in-Err-Torn.wanted c.in_ok-at-in-Err-Torn.at c.in_ok-at-in-Err-Torn.found) c.in-Err-Torn.ensures.stays
            (c.in_ok-at-in-Err-Torn.ensures.tells (c.in-Err-Torn.ensures.keeps_telling tells));
        wrong = λ chunks headed. of_torn _ c.in-Err-Torn.field-0 c.in-Err-Torn.field-0-0 c.in-Err-Torn.field-0-1 c.in-Err-Torn.wanted c.in-Err-Torn.field-0-is (c.in-Err-Torn.ensures.torn tells chunks headed);
      },
      of_torn _ c.in-Err-Torn.field-0 c.in-Err-Torn.field-0-0 c.in-Err-Torn.field-0-1 c.in-Err-Torn.wanted c.in-Err-Torn.field-0-is (c.in-Err-Torn.ensures.none tells),
    )

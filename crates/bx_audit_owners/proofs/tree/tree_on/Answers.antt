use Rattle.std.proofs.Common.{Err, inl, inr, List, ap, sym, subst, ◌∙◌}
use Rattle.std.proofs.lemmas.Result.{err_from_is_err_and}
use Rattle.bx_audit_owners.specs.Holding.{holdings_of}
use Rattle.bx_audit_owners.specs.Whole.{IsWhole}
use Rattle.bx_audit_owners.proofs.Headed.{walked_there}
use Rattle.bx_audit_owners.proofs.Wholes.{none_marked, stands}
use Rattle.bx_audit_slots.specs.declared.slots.UsedSlot.{UsedSlot}
use Rattle.bx_audit_slots.specs.UsedSlots.{AreUsed}
use Rattle.bx_audit_pages.proofs.Ends.{if_torn}
use Rattle.bx_audit_owners.proofs.tree.tree_on.Goals as goal

pub returns-in_err-slots-clause-torn : goal.returns-in_err-slots-clause-torn
returns-in_err-slots-clause-torn g c = λ truth told walked.
    let p = err_from_is_err_and c.from_residual.result c.from_residual.ensures.1 in
    if_torn _ _ c.in_err-slots.field-0.0 c.from_residual.result (p.1 ∙ ap Err p.2) (λ at found wanted free tree stands is.
    none_marked c.args.areas truth c.requires.blocks.most tree stands is at found wanted free) (c.in_err-slots.ensures.torn truth told)

pub returns-in_err-slots-clause-tells : goal.returns-in_err-slots-clause-tells
returns-in_err-slots-clause-tells g c = λ truth told walked.
    let p = err_from_is_err_and c.from_residual.result c.from_residual.ensures.1 in
    if_torn _ _ c.in_err-slots.field-0.0 c.from_residual.result (p.1 ∙ ap Err p.2) (λ at found wanted free. inl free) (c.in_err-slots.ensures.torn truth told)

pub returns-in_err-check_rest-clause-torn : goal.returns-in_err-check_rest-clause-torn
returns-in_err-check_rest-clause-torn g c = λ truth told walked.
    let p = err_from_is_err_and c.from_residual-in_err-check_rest.result c.from_residual-in_err-check_rest.ensures.1 in
    let used = subst (AreUsed c.args.areas truth) (sym c.as_slice.ensures.value) (c.in_ok-slots.ensures.ok truth told) in
    let met = walked_there c.args.areas truth c.requires.blocks.most (g.B.Blocks.tells c.args.blocks.now) (g.B.Blocks.stands c.args.blocks.now) told (g.met.B.Blocks.one c.args.blocks.now) c.args.walked walked in
    if_torn _ _ c.in_err-check_rest.field-0.0 c.from_residual-in_err-check_rest.result (p.1 ∙ ap Err p.2) (λ at found wanted none. none)
    (c.in_err-check_rest.ensures.torn truth c.args.walked.tree.files c.args.walked.tree.given (c.in_ok-slots.ensures.told truth told) used met c.requires.tree.ordered)

pub returns-in_err-check_rest-clause-tells : goal.returns-in_err-check_rest-clause-tells
returns-in_err-check_rest-clause-tells g c = λ truth told walked.
    let p = err_from_is_err_and c.from_residual-in_err-check_rest.result c.from_residual-in_err-check_rest.ensures.1 in
    let used = subst (AreUsed c.args.areas truth) (sym c.as_slice.ensures.value) (c.in_ok-slots.ensures.ok truth told) in
    let met = walked_there c.args.areas truth c.requires.blocks.most (g.B.Blocks.tells c.args.blocks.now) (g.B.Blocks.stands c.args.blocks.now) told (g.met.B.Blocks.one c.args.blocks.now) c.args.walked walked in
    if_torn _ _ c.in_err-check_rest.field-0.0 c.from_residual-in_err-check_rest.result (p.1 ∙ ap Err p.2) (λ at found wanted torn. inr torn)
    (c.in_err-check_rest.ensures.tells truth c.args.walked.tree.files (c.in_ok-slots.ensures.told truth told) used met)

pub returns-clause-ok : goal.returns-clause-ok
returns-clause-ok g c = λ truth told walked.
    let used = subst (AreUsed c.args.areas truth) (sym c.as_slice.ensures.value) (c.in_ok-slots.ensures.ok truth told) in
    let met = walked_there c.args.areas truth c.requires.blocks.most (g.B.Blocks.tells c.args.blocks.now) (g.B.Blocks.stands c.args.blocks.now) told (g.met.B.Blocks.one c.args.blocks.now) c.args.walked walked in
    let now = holdings_of c.check_rest.new.holders in
    let whole = subst (λ (l : List UsedSlot). IsWhole c.args.areas truth l now c.args.walked.tree.files) c.as_slice.ensures.value
    (c.in_ok-check_rest.ensures.ok truth c.args.walked.tree.files (c.in_ok-slots.ensures.told truth told) used met) in
    stands c.args.areas truth c.requires.blocks.most c.in_ok-slots.slots.items (c.in_ok-slots.ensures.ok truth told) now c.args.walked.tree whole.found whole.held
    c.args.walked.tree.volume (g.B.Blocks.tells c.args.blocks.now) (g.B.Blocks.stands c.args.blocks.now) told c.requires.tree met.root

use Rattle.bx_cell.proofs.Regions.{each_image, sure_has}
use Rattle.bx_cell.proofs.Puts.{either_before, filling, filled, opening, opened}
use Rattle.bx_cell.proofs.Leaves.{leaves_either, leaves_filling, leaves_opening, beside_then, keeps_then, body_reads}
use Rattle.std.proofs.Common.{arith}
use Rattle.bx_cell.proofs.steps.replace.Goals as goal

pub returns-in_err-clear_half-clause-any_moment : goal.returns-in_err-clear_half-clause-any_moment
returns-in_err-clear_half-clause-any_moment g c = λ tells found one number each.
    leaves_either _ c.args.disk c.args.base found _ _ _ _ _ (c.clear_half.ensures.any_moment tells found one each)

pub returns-in_err-clear_half-clause-either : goal.returns-in_err-clear_half-clause-either
returns-in_err-clear_half-clause-either g c = λ tells found one number each.
    record { each = λ image has. either_before _ c.args.disk c.args.base found _ image ((c.clear_half.ensures.either tells found one each).each image has) }

pub returns-in_err-fill_half-clause-any_moment : goal.returns-in_err-fill_half-clause-any_moment
returns-in_err-fill_half-clause-any_moment g c = λ tells found one number each.
    let told = c.clear_half.ensures.rack.keeps_telling tells in
    let shut = c.in_ok-clear_half.ensures.closed tells in
    let stands = c.in_ok-clear_half.ensures.stands tells found one each in
    leaves_filling _ c.args.disk c.args.base c.args.half found one c.args.value.now _ _ _ _ _ _ _ 9 stands shut (omega arith) (leaves_either _ c.args.disk c.args.base found _ _ _ _ _ (c.clear_half.ensures.any_moment tells found one each)) (c.fill_half.ensures.any_moment told)

pub returns-in_err-fill_half-clause-either : goal.returns-in_err-fill_half-clause-either
returns-in_err-fill_half-clause-either g c = λ tells found one number each.
    let told = c.clear_half.ensures.rack.keeps_telling tells in
    let shut = c.in_ok-clear_half.ensures.closed tells in
    let stands = c.in_ok-clear_half.ensures.stands tells found one (each_image _ _ each) in
    record { each = λ image has. filling _ c.args.disk c.args.base c.args.half found one _ 9 image _ stands shut (omega arith) (sure_has _ _ _ _ _ image (c.fill_half.ensures.keeps told) has) }

pub returns-in_err-open_gate-clause-any_moment : goal.returns-in_err-open_gate-clause-any_moment
returns-in_err-open_gate-clause-any_moment g c = λ tells found one number each.
    let told = c.clear_half.ensures.rack.keeps_telling tells in
    let shut = c.in_ok-clear_half.ensures.closed tells in
    let stands = c.in_ok-clear_half.ensures.stands tells found one each in
    let still = c.fill_half.ensures.rack.keeps_telling told in
    let filled = filled _ c.args.disk c.args.base c.args.half found one _ _ 9 stands shut (omega arith) (c.fill_half.ensures.keeps told) (c.in_ok-fill_half.ensures.sure told) in
    let body = body_reads _ c.args.disk _ c.args.value.now c.args.number found.number c.requires.short number (c.in_ok-fill_half.ensures.written told) in
    leaves_opening _ c.args.disk c.args.base c.args.half found one c.args.value.now _ _ _ _ _ _ _ 1 c.requires.short (omega arith) filled body (omega arith) (leaves_filling _ c.args.disk c.args.base c.args.half found one c.args.value.now _ _ _ _ _ _ _ 9 stands shut (omega arith) (leaves_either _ c.args.disk c.args.base found _ _ _ _ _ (c.clear_half.ensures.any_moment tells found one each)) (c.fill_half.ensures.any_moment told)) (c.open_gate.ensures.any_moment still)

pub returns-in_err-open_gate-clause-either : goal.returns-in_err-open_gate-clause-either
returns-in_err-open_gate-clause-either g c = λ tells found one number each.
    let told = c.clear_half.ensures.rack.keeps_telling tells in
    let shut = c.in_ok-clear_half.ensures.closed tells in
    let stands = c.in_ok-clear_half.ensures.stands tells found one (each_image _ _ each) in
    let still = c.fill_half.ensures.rack.keeps_telling told in
    let filled = filled _ c.args.disk c.args.base c.args.half found one _ _ 9 stands shut (omega arith) (c.fill_half.ensures.keeps told) (c.in_ok-fill_half.ensures.sure told) in
    let body = body_reads _ c.args.disk _ c.args.value.now c.args.number found.number c.requires.short number (c.in_ok-fill_half.ensures.written told) in
    record { each = λ image has. opening _ c.args.disk c.args.base c.args.half found one c.args.value.now c.requires.short (omega arith) _ filled body 1 (omega arith) image (sure_has _ _ _ _ _ image (c.open_gate.ensures.keeps still) has) }

pub returns-clause-any_moment : goal.returns-clause-any_moment
returns-clause-any_moment g c = λ tells found one number each.
    let told = c.clear_half.ensures.rack.keeps_telling tells in
    let shut = c.in_ok-clear_half.ensures.closed tells in
    let stands = c.in_ok-clear_half.ensures.stands tells found one each in
    let still = c.fill_half.ensures.rack.keeps_telling told in
    let filled = filled _ c.args.disk c.args.base c.args.half found one _ _ 9 stands shut (omega arith) (c.fill_half.ensures.keeps told) (c.in_ok-fill_half.ensures.sure told) in
    let body = body_reads _ c.args.disk _ c.args.value.now c.args.number found.number c.requires.short number (c.in_ok-fill_half.ensures.written told) in
    leaves_opening _ c.args.disk c.args.base c.args.half found one c.args.value.now _ _ _ _ _ _ _ 1 c.requires.short (omega arith) filled body (omega arith) (leaves_filling _ c.args.disk c.args.base c.args.half found one c.args.value.now _ _ _ _ _ _ _ 9 stands shut (omega arith) (leaves_either _ c.args.disk c.args.base found _ _ _ _ _ (c.clear_half.ensures.any_moment tells found one each)) (c.fill_half.ensures.any_moment told)) (c.open_gate.ensures.any_moment still)

pub returns-clause-either : goal.returns-clause-either
returns-clause-either g c = λ tells found one number each.
    let told = c.clear_half.ensures.rack.keeps_telling tells in
    let shut = c.in_ok-clear_half.ensures.closed tells in
    let stands = c.in_ok-clear_half.ensures.stands tells found one (each_image _ _ each) in
    let still = c.fill_half.ensures.rack.keeps_telling told in
    let filled = filled _ c.args.disk c.args.base c.args.half found one _ _ 9 stands shut (omega arith) (c.fill_half.ensures.keeps told) (c.in_ok-fill_half.ensures.sure told) in
    let body = body_reads _ c.args.disk _ c.args.value.now c.args.number found.number c.requires.short number (c.in_ok-fill_half.ensures.written told) in
    record { each = λ image has. opening _ c.args.disk c.args.base c.args.half found one c.args.value.now c.requires.short (omega arith) _ filled body 1 (omega arith) image (sure_has _ _ _ _ _ image (c.open_gate.ensures.keeps still) has) }

pub returns-clause-holds : goal.returns-clause-holds
returns-clause-holds g c = λ tells found one number each.
    let told = c.clear_half.ensures.rack.keeps_telling tells in
    let shut = c.in_ok-clear_half.ensures.closed tells in
    let stands = c.in_ok-clear_half.ensures.stands tells found one each in
    let still = c.fill_half.ensures.rack.keeps_telling told in
    let filled = filled _ c.args.disk c.args.base c.args.half found one _ _ 9 stands shut (omega arith) (c.fill_half.ensures.keeps told) (c.in_ok-fill_half.ensures.sure told) in
    let body = body_reads _ c.args.disk _ c.args.value.now c.args.number found.number c.requires.short number (c.in_ok-fill_half.ensures.written told) in
    opened _ c.args.disk c.args.base c.args.half found one c.args.value.now c.requires.short (omega arith) _ filled body 1 (omega arith) _ (c.open_gate.ensures.keeps still) (c.in_ok-open_gate.ensures.sure still) (c.in_ok-open_gate.ensures.opened still)

pub returns-in_err-open_gate-clause-beside : goal.returns-in_err-open_gate-clause-beside
returns-in_err-open_gate-clause-beside g c = λ tells.
    let told = c.clear_half.ensures.rack.keeps_telling tells in
    let still = c.fill_half.ensures.rack.keeps_telling told in
    let keeps = keeps_then _ _ _ c.args.disk c.args.base _ 9 (omega arith) (omega arith) (c.clear_half.ensures.keeps tells) (c.fill_half.ensures.keeps told) in
    let first = beside_then _ _ _ _ _ _ _ _ c.args.disk c.args.base _ 9 (omega arith) (omega arith) (c.clear_half.ensures.beside tells) (c.clear_half.ensures.keeps tells) (c.fill_half.ensures.any_moment told) in
    beside_then _ _ _ _ _ _ _ _ c.args.disk c.args.base _ 1 (omega arith) (omega arith) first keeps (c.open_gate.ensures.any_moment still)

pub returns-clause-beside : goal.returns-clause-beside
returns-clause-beside g c = λ tells.
    let told = c.clear_half.ensures.rack.keeps_telling tells in
    let still = c.fill_half.ensures.rack.keeps_telling told in
    let keeps = keeps_then _ _ _ c.args.disk c.args.base _ 9 (omega arith) (omega arith) (c.clear_half.ensures.keeps tells) (c.fill_half.ensures.keeps told) in
    let first = beside_then _ _ _ _ _ _ _ _ c.args.disk c.args.base _ 9 (omega arith) (omega arith) (c.clear_half.ensures.beside tells) (c.clear_half.ensures.keeps tells) (c.fill_half.ensures.any_moment told) in
    beside_then _ _ _ _ _ _ _ _ c.args.disk c.args.base _ 1 (omega arith) (omega arith) first keeps (c.open_gate.ensures.any_moment still)

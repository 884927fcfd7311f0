use Rattle.std.proofs.Common.{arith}
use Rattle.bx_calls.specs.Laws.{keeps_all}
use Rattle.bx_cell.proofs.Regions.{each_image}
use Rattle.bx_cell.proofs.Puts.{stands_first, closing, closed}
use Rattle.bx_cell.proofs.Leaves.{reads_are, leaves_first, leaves_closing, beside_first, beside_then}
use Rattle.bx_cell.proofs.steps.clear_half.Goals as goal

pub returns-in_err-close_gate-clause-any_moment : goal.returns-in_err-close_gate-clause-any_moment
returns-in_err-close_gate-clause-any_moment g c = λ tells found one each.
    let is = reads_are (g.R.Rack.state c.args.rack.now) (λ d s. g.met.R.Rack.whole c.args.rack.now d s tells) (λ d s. g.met.R.Rack.there c.args.rack.now d s tells) in
    let told = c.sync_disk.ensures.rack.keeps_telling tells in
    let synced = c.in_ok-sync_disk.ensures.sure tells in
    let stands = stands_first _ _ c.args.disk c.args.base found each is (c.sync_disk.ensures.keeps tells) synced in
    leaves_closing _ c.args.disk c.args.base c.args.half found one _ _ _ _ _ _ _ stands (leaves_first _ c.args.disk c.args.base found _ _ _ _ each (c.sync_disk.ensures.any_moment tells)) (c.close_gate.ensures.any_moment told synced)

pub returns-in_err-close_gate-clause-either : goal.returns-in_err-close_gate-clause-either
returns-in_err-close_gate-clause-either g c = λ tells found one each.
    let is = reads_are (g.R.Rack.state c.args.rack.now) (λ d s. g.met.R.Rack.whole c.args.rack.now d s tells) (λ d s. g.met.R.Rack.there c.args.rack.now d s tells) in
    let told = c.sync_disk.ensures.rack.keeps_telling tells in
    let synced = c.in_ok-sync_disk.ensures.sure tells in
    let stands = stands_first _ _ c.args.disk c.args.base found (each_image _ _ each) is (c.sync_disk.ensures.keeps tells) synced in
    record { each = λ image has. closing _ c.args.disk c.args.base c.args.half found one _ image stands ((c.close_gate.ensures.either told synced).each image has) }

pub returns-clause-stands : goal.returns-clause-stands
returns-clause-stands g c = λ tells found one each.
    let is = reads_are (g.R.Rack.state c.args.rack.now) (λ d s. g.met.R.Rack.whole c.args.rack.now d s tells) (λ d s. g.met.R.Rack.there c.args.rack.now d s tells) in
    let told = c.sync_disk.ensures.rack.keeps_telling tells in
    let synced = c.in_ok-sync_disk.ensures.sure tells in
    let stands = stands_first _ _ c.args.disk c.args.base found each is (c.sync_disk.ensures.keeps tells) synced in
    closed _ c.args.disk c.args.base c.args.half found one _ _ stands (c.close_gate.ensures.keeps told) (c.in_ok-close_gate.ensures.sure told synced) (c.in_ok-close_gate.ensures.closed told)

pub returns-clause-any_moment : goal.returns-clause-any_moment
returns-clause-any_moment g c = λ tells found one each.
    let is = reads_are (g.R.Rack.state c.args.rack.now) (λ d s. g.met.R.Rack.whole c.args.rack.now d s tells) (λ d s. g.met.R.Rack.there c.args.rack.now d s tells) in
    let told = c.sync_disk.ensures.rack.keeps_telling tells in
    let synced = c.in_ok-sync_disk.ensures.sure tells in
    let stands = stands_first _ _ c.args.disk c.args.base found each is (c.sync_disk.ensures.keeps tells) synced in
    leaves_closing _ c.args.disk c.args.base c.args.half found one _ _ _ _ _ _ _ stands (leaves_first _ c.args.disk c.args.base found _ _ _ _ each (c.sync_disk.ensures.any_moment tells)) (c.close_gate.ensures.any_moment told synced)

pub returns-clause-either : goal.returns-clause-either
returns-clause-either g c = λ tells found one each.
    let is = reads_are (g.R.Rack.state c.args.rack.now) (λ d s. g.met.R.Rack.whole c.args.rack.now d s tells) (λ d s. g.met.R.Rack.there c.args.rack.now d s tells) in
    let told = c.sync_disk.ensures.rack.keeps_telling tells in
    let synced = c.in_ok-sync_disk.ensures.sure tells in
    let stands = stands_first _ _ c.args.disk c.args.base found (each_image _ _ each) is (c.sync_disk.ensures.keeps tells) synced in
    record { each = λ image has. closing _ c.args.disk c.args.base c.args.half found one _ image stands ((c.close_gate.ensures.either told synced).each image has) }

pub returns-in_err-sync_disk-clause-any_moment : goal.returns-in_err-sync_disk-clause-any_moment
returns-in_err-sync_disk-clause-any_moment g c = λ tells found one each. leaves_first _ c.args.disk c.args.base found _ _ _ _ each (c.sync_disk.ensures.any_moment tells)

pub returns-in_err-sync_disk-clause-beside : goal.returns-in_err-sync_disk-clause-beside
returns-in_err-sync_disk-clause-beside g c = λ tells. beside_first _ _ _ _ _ c.args.disk c.args.base (c.sync_disk.ensures.any_moment tells)

pub returns-in_err-close_gate-clause-beside : goal.returns-in_err-close_gate-clause-beside
returns-in_err-close_gate-clause-beside g c = λ tells.
    beside_then _ _ _ _ _ _ _ _ c.args.disk c.args.base _ 1 (omega arith) (omega arith) (beside_first _ _ _ _ _ c.args.disk c.args.base (c.sync_disk.ensures.any_moment tells))
    (keeps_all _ _ c.args.disk c.args.base 20 (c.sync_disk.ensures.keeps tells)) (c.close_gate.ensures.beside (c.sync_disk.ensures.rack.keeps_telling tells))

pub returns-clause-beside : goal.returns-clause-beside
returns-clause-beside g c = λ tells.
    beside_then _ _ _ _ _ _ _ _ c.args.disk c.args.base _ 1 (omega arith) (omega arith) (beside_first _ _ _ _ _ c.args.disk c.args.base (c.sync_disk.ensures.any_moment tells))
    (keeps_all _ _ c.args.disk c.args.base 20 (c.sync_disk.ensures.keeps tells)) (c.close_gate.ensures.beside (c.sync_disk.ensures.rack.keeps_telling tells))

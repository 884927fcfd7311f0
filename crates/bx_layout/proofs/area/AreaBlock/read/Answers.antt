use Rattle.std.proofs.Common.{arith}
use Rattle.bx_base.proofs.Whole.{zeros_none, zeros_some}
use Rattle.bx_layout.specs.declared.area.AreaBlock.{AreaBlock}
use Rattle.bx_layout.specs.Areas.{SpellsArea}
use Rattle.bx_layout.specs.AreaReading.{area_at}
use Rattle.bx_layout.proofs.Payloads.{area_read, area_same, area_none, area_len}
use Rattle.bx_layout.proofs.area.AreaBlock.read.Goals as goal

pub returns-then-payload-ne-PAYLOAD-clause-none : goal.returns-then-payload-ne-PAYLOAD-clause-none
returns-then-payload-ne-PAYLOAD-clause-none c = λ area s. c.if-payload-ne-PAYLOAD.true (area_len c.args.payload.now area s)

pub returns-clause-some : goal.returns-clause-some
returns-clause-some c = zeros_some (λ x. (x.0, x.1.now)) (λ x. x) (λ area. SpellsArea area c.args.payload.now) (area_at c.args.payload.now) c.area_of.result c.before_zeros.result
    (λ area rest e zeros. area_read c.args.payload.now rest area (λ i. omega (arith, c.type_inv.payload i)) c.if-payload-ne-PAYLOAD.false e zeros) c.area_of.ensures c.before_zeros.ensures

pub returns-clause-none : goal.returns-clause-none
returns-clause-none c = zeros_none (λ x. (x.0, x.1.now)) (λ x. x) ((area : AreaBlock) → SpellsArea area c.args.payload.now → ⊥) (area_at c.args.payload.now) c.area_of.result c.before_zeros.result
    (λ e area s. area_none c.args.payload.now area e s) (λ found rest e other area s. other (area_same c.args.payload.now rest found area e s).1) c.area_of.ensures c.before_zeros.ensures

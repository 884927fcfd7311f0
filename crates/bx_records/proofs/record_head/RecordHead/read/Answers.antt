use Rattle.std.proofs.Common.{arith}
use Rattle.bx_layout.specs.bx_base.proofs.Whole.{zeros_none, zeros_some}
use Rattle.bx_records.specs.declared.record_head.RecordHead.{RecordHead}
use Rattle.bx_records.specs.Records.{SpellsHead}
use Rattle.bx_records.specs.RecordReading.{head_at}
use Rattle.bx_records.proofs.Sectors.{head_read, head_same, head_none, head_len}
use Rattle.bx_records.proofs.record_head.RecordHead.read.Goals as goal

pub returns-then-sector-ne-SECTOR-clause-none : goal.returns-then-sector-ne-SECTOR-clause-none
returns-then-sector-ne-SECTOR-clause-none c = λ head s. c.if-sector-ne-SECTOR.true (head_len c.args.sector.now head s)

pub returns-clause-some : goal.returns-clause-some
returns-clause-some c = zeros_some (λ x. (x.0, x.1.now)) (λ x. x) (λ head. SpellsHead head c.args.sector.now) (head_at c.args.sector.now) c.head_of.result c.before_zeros.result
    (λ head rest e zeros. head_read c.args.sector.now rest head (λ i. omega (arith, c.type_inv.sector i)) c.if-sector-ne-SECTOR.false e zeros) c.head_of.ensures c.before_zeros.ensures

pub returns-clause-none : goal.returns-clause-none
returns-clause-none c = zeros_none (λ x. (x.0, x.1.now)) (λ x. x) ((head : RecordHead) → SpellsHead head c.args.sector.now → ⊥) (head_at c.args.sector.now) c.head_of.result c.before_zeros.result
    (λ e head s. head_none c.args.sector.now head e s) (λ found rest e other head s. other (head_same c.args.sector.now rest found head e s).1) c.head_of.ensures c.before_zeros.ensures

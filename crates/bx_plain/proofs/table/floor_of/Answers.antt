use Rattle.std.proofs.Common.{List, ap, arith, ◌∙◌}
use Rattle.bx_plain.specs.declared.rows.Row.{Row}
use Rattle.bx_plain.specs.Rows.{floor_in}
use Rattle.bx_plain.proofs.AtBlock.{floor_at}
use Rattle.bx_plain.proofs.table.floor_of.Goals as goal

pub loop-row-init : goal.loop-row-init
loop-row-init c =
    let is = ap (λ (rows : List Row). floor_in rows c.args.block) c.at-row-items.ensures.rows ∙ floor_at c.args.rows.now c.args.block in
    (c.at-row-items.ensures.own, omega (arith, is))

use Rattle.std.proofs.Common.{List, ap, ◌∙◌}
use Rattle.bx_plain.specs.declared.rows.Row.{Row}
use Rattle.bx_plain.specs.Rows.{lock_row}
use Rattle.bx_plain.proofs.AtBlock.{row_at}
use Rattle.bx_plain.proofs.table.row_of.Goals as goal

pub loop-row-init : goal.loop-row-init
loop-row-init c = (c.at-row-items.ensures.own, ap (λ (rows : List Row). lock_row rows c.args.session c.args.block) c.at-row-items.ensures.rows ∙ row_at c.args.rows.now c.args.session c.args.block)

use Rattle.std.proofs.Common.{sym}
use Rattle.bx_plain.proofs.Wants.{held_as, not_held}
use Rattle.bx_plain.proofs.table.hold_at.Goals as goal

pub returns-then-row : goal.returns-then-row
returns-then-row c = held_as c.args.rows.now c.args.session c.args.block c.row_of-row.result c.row_of-row.ensures c.if-row.true

pub returns : goal.returns
returns c = sym (not_held c.args.rows.now c.args.session c.args.block c.row_of-row.result c.row_of-row.ensures c.if-row.false)

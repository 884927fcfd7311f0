use Rattle.std.proofs.Common.{sym}
use Rattle.bx_plain.proofs.Wants.{not_wanted, wanted_as}
use Rattle.bx_plain.proofs.table.want_at.Goals as goal

pub returns-then-row : goal.returns-then-row
returns-then-row c = wanted_as c.args.rows.now c.args.session c.args.block c.row_of-row.result c.row_of-row.ensures c.if-row.true

pub returns : goal.returns
returns c = sym (not_wanted c.args.rows.now c.args.session c.args.block c.row_of-row.result c.row_of-row.ensures c.if-row.false)

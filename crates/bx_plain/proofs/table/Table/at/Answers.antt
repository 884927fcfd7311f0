use Rattle.std.proofs.Common.{List, sym, ap, subst, ◌∙◌}
use Rattle.bx_plain.specs.declared.rows.Row.{Row}
use Rattle.bx_plain.specs.Rows.{rows_at}
use Rattle.bx_plain.specs.Tables.{AreOf, flat}
use Rattle.bx_plain.proofs.AtBlock.{own_at}
use Rattle.bx_plain.proofs.Blocks.{found_at, rise_is}
use Rattle.bx_plain.proofs.table.Table.at.Goals as goal

pub returns-clause-rows : goal.returns-clause-rows
returns-clause-rows c =
    c.rows_of.ensures ∙ found_at c.args.block c.self.inside.blocks.entries (rise_is c.self.inside.blocks.entries c.self.invariant.ordered) c.self.invariant.theirs ∙ ap (λ (rows : List Row). rows_at c.args.block rows) c.self.view_is

pub returns-clause-own : goal.returns-clause-own
returns-clause-own c =
    let is = c.rows_of.ensures ∙ found_at c.args.block c.self.inside.blocks.entries (rise_is c.self.inside.blocks.entries c.self.invariant.ordered) c.self.invariant.theirs in
    subst (AreOf c.args.block) (sym is) (own_at c.args.block (flat c.self.inside.blocks.entries))

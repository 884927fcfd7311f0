use Rattle.std.proofs.Common.{◌≡◌, List, subst}
use Rattle.bx_plain.specs.declared.rows.Row.{Row}
use Rattle.bx_plain.specs.Tables.{gather, wanted}
use Rattle.bx_plain.proofs.Blocks.{rise_is}
use Rattle.bx_plain.proofs.Order.{climb_is, flat_order, gathers}
use Rattle.bx_plain.proofs.table.Table.waiting.Goals as goal

pub returns : goal.returns
returns c =
    let is = c.self.invariant in
    let keys = c.self.inside.waiting.keys in
    let entries = c.self.inside.blocks.entries in
    subst (λ (rows : List Row). wanted (gather keys rows) ≡ wanted rows) c.self.view_is (gathers keys _ (climb_is keys is.rises) (flat_order entries (rise_is entries is.ordered) is.theirs) is.wait)

use Rattle.std.proofs.Common.{◌≡◌, ◌∙◌, rules, ap, sym}
use Rattle.std.specs.Prelude.{None, Option, unwrap_or}
use Rattle.std.specs.Ordering.{nat_cmp}
use Rattle.std.specs.BTreeMap.{get}
use Rattle.bx_disk.specs.Disks.{zeros}
use Rattle.bx_memory_rack.specs.Cells.{blank_cell}
use Rattle.bx_memory_rack.specs.declared.cell.Cell.{Cell}
use Rattle.bx_memory_rack.proofs.cells.read_at.Goals as goal

pub returns-in-None-clause-here : goal.returns-in-None-clause-here
unfolding zeros
returns-in-None-clause-here c =
    let none : get nat_cmp c.args.cells.now c.args.sector ≡ None = search rules in
    c.put_sector-in-None.ensures.here ∙ sym (ap (λ (o : Option Cell). (unwrap_or o blank_cell).now) none)

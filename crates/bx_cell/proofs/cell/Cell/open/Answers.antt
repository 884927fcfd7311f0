use Rattle.std.proofs.Common.{◌∙◌, arith}
use Rattle.bx_cell.proofs.Opening.{cell_read, cell_held}
use Rattle.bx_cell.proofs.cell.Cell.open.Goals as goal

pub returns-in_default-clause-none : goal.returns-in_default-clause-none
returns-in_default-clause-none g c = λ tells is.
    cell_read _ c.args.disk c.args.base c.sync_and_read.new.into (omega arith) (c.in_ok-sync_and_read.ensures.bytes tells) ∙ c.in_default.ensures.none

pub returns-clause-some : goal.returns-clause-some
returns-clause-some g c = λ tells.
    rw (c.in_ok-value.ensures, c.value_of.ensures) (cell_read _ c.args.disk c.args.base c.sync_and_read.new.into (omega arith) (c.in_ok-sync_and_read.ensures.bytes tells) ∙ c.in-Some.ensures.some)

pub returns-clause-holds : goal.returns-clause-holds
returns-clause-holds g c = λ tells.
    rw (c.in_ok-value.ensures, c.value_of.ensures) (record {
      each = λ image has.
          cell_held _ _ c.args.disk c.args.base c.sync_and_read.new.into image (c.sync_and_read.ensures.keeps tells) (c.in_ok-sync_and_read.ensures.sure tells) (omega arith) (c.in_ok-sync_and_read.ensures.bytes tells) has ∙ c.in-Some.ensures.some;
    })

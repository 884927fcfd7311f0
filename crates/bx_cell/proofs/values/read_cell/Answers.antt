use Rattle.std.proofs.Common.{◌∙◌, refl, arith}
use Rattle.bx_cell.proofs.Opening.{cell_read}
use Rattle.bx_cell.proofs.values.read_cell.Goals as goal

pub returns-in_default-clause-none : goal.returns-in_default-clause-none
returns-in_default-clause-none g c = λ tells.
    cell_read _ c.args.disk c.args.base c.read_sectors.new.into (omega arith) (c.in_ok-read_sectors.ensures.bytes tells) ∙ c.in_default.ensures.none

pub returns-clause-some : goal.returns-clause-some
returns-clause-some g c = λ tells.
    rw (c.in_ok-value.ensures, c.value_of.ensures) (
      _,
      cell_read _ c.args.disk c.args.base c.read_sectors.new.into (omega arith) (c.in_ok-read_sectors.ensures.bytes tells) ∙ c.in-Some.ensures.some,
      refl,
      refl,
    )

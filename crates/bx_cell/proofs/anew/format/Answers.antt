use Rattle.std.proofs.Common.{arith}
use Rattle.bx_cell.proofs.Formats.{format_cell, each_sure}
use Rattle.bx_cell.proofs.anew.format.Goals as goal

pub returns-clause-cell : goal.returns-clause-cell
returns-clause-cell g c = λ tells.
    format_cell _ c.args.disk c.args.base c.write_format.new.into c.args.value.now (omega arith) c.write_format.ensures c.requires.short (c.in_ok-write_through.ensures.written tells)

pub returns-clause-holds : goal.returns-clause-holds
returns-clause-holds g c = λ tells.
    each_sure _ c.args.disk c.args.base c.args.value.now (c.in_ok-write_through.ensures.sure tells)
    (format_cell _ c.args.disk c.args.base c.write_format.new.into c.args.value.now (omega arith) c.write_format.ensures c.requires.short (c.in_ok-write_through.ensures.written tells))

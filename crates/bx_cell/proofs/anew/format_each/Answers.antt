use Rattle.std.proofs.Common.{◌<◌, arith}
use Rattle.bx_cell.proofs.Formats.{each_sure}
use Rattle.bx_cell.proofs.Beside.{keeps_more, leaves_more, formatted_more}
use Rattle.bx_cell.proofs.anew.format_each.Goals as goal

pub loop-disk-preserved : goal.loop-disk-preserved
loop-disk-preserved g c =
    let less : c.loop-disk.disk < c.args.count = omega arith in
    record {
      formatted = λ tells.
          let told = c.loop-disk.invariant.rack.keeps_telling tells in
          formatted_more _ _ c.args.base c.loop-disk.disk c.args.value.now (c.loop-disk.invariant.formatted tells) (c.format.ensures.keeps told) (c.in_ok-format.ensures.sure told) (c.in_ok-format.ensures.cell told);
      keeps = λ tells.
          let told = c.loop-disk.invariant.rack.keeps_telling tells in
          keeps_more _ _ c.args.count c.args.base c.loop-disk.disk less (c.loop-disk.invariant.keeps tells) _ (c.format.ensures.keeps told);
      any_moment = λ tells.
          let told = c.loop-disk.invariant.rack.keeps_telling tells in
          leaves_more _ _ c.args.count c.args.base c.loop-disk.disk less (c.loop-disk.invariant.keeps tells) _ _ _ _ _ _ (c.loop-disk.invariant.any_moment tells) (c.format.ensures.any_moment told);
      rack = grind arith;
    }

pub returns-clause-holds : goal.returns-clause-holds
returns-clause-holds g c = λ tells d less.
    let are = c.loop-disk.invariant.formatted tells in
    let within : d < c.loop-disk.disk = omega arith in
    each_sure _ d c.args.base c.args.value.now (are.synced d within) (are.cell d within)

use Rattle.std.proofs.Common.{◌∙◌, arith}
use Rattle.bx_format.proofs.Spared.{spares_sync, spares_then, sure_more}
use Rattle.bx_format.specs.Moments.{IsAnySector}
use Rattle.bx_format.proofs.labels.sync_all.Goals as goal

pub loop-disk-preserved : goal.loop-disk-preserved
loop-disk-preserved g c =
    let was = c.loop-disk.invariant in
    record {
      sure = λ d s tells less.
          let told = was.rack.keeps_telling tells in
          sure_more (g.R.Rack.state c.loop-disk.rack) (g.R.Rack.state c.sync_disk.new.rack) c.loop-disk.disk (c.sync_disk.ensures.keeps told) (c.in_ok-sync_disk.ensures.sure told) (λ e t low. was.sure e t tells low) d s less;
      reads = λ tells. (c.sync_disk.ensures.keeps (was.rack.keeps_telling tells)).reads ∙ was.reads tells;
      spares = λ tells.
          let told = was.rack.keeps_telling tells in
          spares_then IsAnySector _ _ _ _ _ _ _ _ _ (was.spares tells) (spares_sync IsAnySector _ _ c.loop-disk.disk _ _ _ _ (c.sync_disk.ensures.keeps told) (c.sync_disk.ensures.any_moment told));
      rack = grind arith;
    }

pub returns-in_err-sync_disk-clause-spares : goal.returns-in_err-sync_disk-clause-spares
returns-in_err-sync_disk-clause-spares g c = λ tells.
    let told = c.loop-disk.invariant.rack.keeps_telling tells in
    spares_then IsAnySector _ _ _ _ _ _ _ _ _ (c.loop-disk.invariant.spares tells) (spares_sync IsAnySector _ _ c.loop-disk.disk _ _ _ _ (c.sync_disk.ensures.keeps told) (c.sync_disk.ensures.any_moment told))

pub returns-clause-spares : goal.returns-clause-spares
returns-clause-spares g c = c.loop-disk.invariant.spares

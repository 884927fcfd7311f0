use Rattle.std.proofs.Common.{subst}
use Rattle.bx_disk.specs.Disks.{Image}
use Rattle.bx_calls.specs.Regions.{ReadsAs}
use Rattle.bx_cell.proofs.Leaves.{reads_are, read_leaves}
use Rattle.bx_cell.proofs.steps.sync_and_read.Goals as goal

pub returns-in_err-read_sectors-clause-any_moment : goal.returns-in_err-read_sectors-clause-any_moment
returns-in_err-read_sectors-clause-any_moment g c = λ tells.
    let is = reads_are (g.R.Rack.state c.args.rack.now) (λ d s. g.met.R.Rack.whole c.args.rack.now d s tells) (λ d s. g.met.R.Rack.there c.args.rack.now d s tells) in
    read_leaves _ _ _ _ _ _ _ _ c.args.disk is (c.sync_disk.ensures.keeps tells) (c.sync_disk.ensures.any_moment tells) (c.read_sectors.ensures.any_moment (c.sync_disk.ensures.rack.keeps_telling tells))

pub returns-clause-bytes : goal.returns-clause-bytes
returns-clause-bytes g c = λ tells.
    subst (λ (x : Image). ReadsAs x c.args.disk c.args.sector c.read_sectors.new.into) (c.sync_disk.ensures.keeps tells).reads (c.in_ok-read_sectors.ensures.bytes (c.sync_disk.ensures.rack.keeps_telling tells))

pub returns-clause-any_moment : goal.returns-clause-any_moment
returns-clause-any_moment g c = λ tells.
    let is = reads_are (g.R.Rack.state c.args.rack.now) (λ d s. g.met.R.Rack.whole c.args.rack.now d s tells) (λ d s. g.met.R.Rack.there c.args.rack.now d s tells) in
    read_leaves _ _ _ _ _ _ _ _ c.args.disk is (c.sync_disk.ensures.keeps tells) (c.sync_disk.ensures.any_moment tells) (c.read_sectors.ensures.any_moment (c.sync_disk.ensures.rack.keeps_telling tells))

use Rattle.std.proofs.Common.{sym, subst}
use Rattle.bx_disk.specs.Disks.{Disks}
use Rattle.bx_format.specs.Formats.{areas_truth, HoldsBlocks}
use Rattle.bx_format.proofs.Blank.{blank_holds}
use Rattle.bx_format.proofs.Spared.{bare_shaped, leaves_bare, sizes_long}
use Rattle.bx_format.proofs.shapes.shape_disks.Goals as goal

pub returns-clause-blocks : goal.returns-clause-blocks
returns-clause-blocks g c = λ tells.
    subst (λ (disks : Disks). HoldsBlocks disks.reads c.args.devices c.args.areas (areas_truth 0)) (sym (c.in_ok-shape.ensures.shaped tells))
    (blank_holds c.put_sizes.new.into c.args.devices c.args.areas c.requires.volume c.put_sizes.ensures)

pub returns-clause-bare : goal.returns-clause-bare
returns-clause-bare g c = λ tells. bare_shaped (g.R.Rack.state c.shape.new.self) c.put_sizes.new.into (sizes_long c.put_sizes.new.into c.args.devices c.args.areas c.put_sizes.ensures) (c.in_ok-shape.ensures.shaped tells)

pub returns-clause-moments : goal.returns-clause-moments
returns-clause-moments g c = λ tells.
    leaves_bare (g.R.Rack.state c.args.rack.now) (g.R.Rack.state c.shape.new.self) _ _ _ _ (c.shape.ensures.time tells) (λ image left. g.met.R.Rack.only_now c.args.rack.now image tells left) (bare_shaped (g.R.Rack.state c.shape.new.self) c.put_sizes.new.into (sizes_long c.put_sizes.new.into c.args.devices c.args.areas c.put_sizes.ensures) (c.in_ok-shape.ensures.shaped tells))

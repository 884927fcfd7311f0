use Rattle.bx_truth.specs.Opening.{opening_truth}
use Rattle.bx_format.specs.Formats.{areas_truth}
use Rattle.bx_format.proofs.Made.{root_is_made, same_blocks}
use Rattle.std.proofs.Common.{◌∙◌, subst, sym, List, ℕ}
use Rattle.bx_calls.specs.Calls.{LeavesOnly}
use Rattle.bx_format.proofs.Spared.{bare_then, leaves_bare_then, spares_then}
use Rattle.bx_format.specs.Moments.{IsLabelSector, IsOldOrBare}
use Rattle.bx_format.proofs.volumes.lay_out.Goals as goal

pub returns-clause-blocks : goal.returns-clause-blocks
returns-clause-blocks g c = λ tells.
    let shaped = c.shape_disks.ensures.rack.keeps_telling tells in
    let told = c.write_areas.ensures.rack.keeps_telling shaped in
    same_blocks _ c.args.devices c.args.areas _ opening_truth
    (c.in_ok-write_root.ensures.puts (areas_truth c.args.areas) told (c.in_ok-write_areas.ensures.blocks shaped (c.in_ok-shape_disks.ensures.blocks tells)))
    (λ at is. root_is_made c.args.areas at is)

pub returns-clause-bare : goal.returns-clause-bare
returns-clause-bare g c = λ tells.
    let shaped = c.shape_disks.ensures.rack.keeps_telling tells in
    let told = c.write_areas.ensures.rack.keeps_telling shaped in
    bare_then (g.R.Rack.state c.shape_disks.new.rack) (g.R.Rack.state c.write_root.new.rack) _ _ _ _ (c.write_root.ensures.rack.sizes ∙ c.write_areas.ensures.rack.sizes) (c.in_ok-shape_disks.ensures.bare tells)
    (spares_then IsLabelSector _ _ _ _ _ _ _ _ _ (c.write_areas.ensures.spares shaped) (c.write_root.ensures.spares told))

pub returns-clause-moments : goal.returns-clause-moments
returns-clause-moments g c = λ tells.
    let shaped = c.shape_disks.ensures.rack.keeps_telling tells in
    let told = c.write_areas.ensures.rack.keeps_telling shaped in
    subst (λ (sizes : List ℕ). LeavesOnly (g.R.Rack.moment c.args.rack.now) (g.R.Rack.moment c.write_root.new.rack) (g.R.Rack.left_since c.args.rack.now) (g.R.Rack.left_since c.write_root.new.rack) (IsOldOrBare (g.R.Rack.state c.args.rack.now) sizes))
    (sym (c.write_root.ensures.rack.sizes ∙ c.write_areas.ensures.rack.sizes))
    (leaves_bare_then (g.R.Rack.state c.args.rack.now) (g.R.Rack.state c.shape_disks.new.rack) (g.R.Rack.state c.write_root.new.rack) _ _ _ _ _ _ (c.in_ok-shape_disks.ensures.moments tells) (c.in_ok-shape_disks.ensures.bare tells)
    (spares_then IsLabelSector _ _ _ _ _ _ _ _ _ (c.write_areas.ensures.spares shaped) (c.write_root.ensures.spares told)))

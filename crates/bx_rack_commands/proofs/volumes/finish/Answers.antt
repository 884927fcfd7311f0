use Rattle.std.proofs.Common.{List, refl, sym, subst, arith, ℕ}
use Rattle.bx_format.specs.Formats.{HasSizes}
use Rattle.bx_layout.specs.declared.label.Label.{Label}
use Rattle.bx_layout.specs.Labels.{IsLabel}
use Rattle.bx_rack_commands.proofs.Cells.{replica_room}
use Rattle.bx_rack_commands.proofs.Made.{leaves_cells, leaves_whole, new_volume}
use Rattle.bx_rack_commands.proofs.volumes.finish.Goals as goal

pub put_cells-requires-clause-disks : goal.put_cells-requires-clause-disks
put_cells-requires-clause-disks g c = let count = c.requires.sizes.count in omega (arith, count)

pub put_cells-requires-clause-room : goal.put_cells-requires-clause-room
put_cells-requires-clause-room g c = λ disk low. replica_room (g.R.Rack.state c.args.rack.now).sizes c.args.devices c.args.areas disk c.requires.sizes low

pub label_disks-requires-clause-sizes : goal.label_disks-requires-clause-sizes
label_disks-requires-clause-sizes g c = subst (λ (sizes : List ℕ). HasSizes sizes c.args.devices c.args.areas) (sym c.put_cells.ensures.rack.sizes) c.requires.sizes

pub returns-clause-made : goal.returns-clause-made
returns-clause-made g c = λ tells blocks none.
    let told = c.put_cells.ensures.rack.keeps_telling tells in
    let label : Label = record { volume = c.args.volume; disk = 0; devices = c.args.devices; areas = c.args.areas } in
    let volume = c.requires.volume in
    let is : IsLabel label = record {
      volume = c.ranges.volume.fits;
      disk = omega arith;
      least_devices = volume.least_devices;
      most_devices = volume.most_devices;
      least_areas = volume.least_areas;
      most_areas = volume.most_areas;
    } in
    new_volume (g.R.Rack.state c.args.rack.now) (g.R.Rack.state c.put_cells.new.rack) (g.R.Rack.state c.label_disks.new.rack) label is refl
    (c.one_first_label.ensures (g.R.Rack.state c.label_disks.new.rack).sizes (g.R.Rack.state c.label_disks.new.rack).reads)
    c.requires.sizes blocks none
    (c.put_cells.ensures.beside tells) (c.in_ok-put_cells.ensures.cells tells)
    c.label_disks.ensures.rack.sizes (c.label_disks.ensures.behind told) (λ d s. c.in_ok-label_disks.ensures.sure d s told) (c.in_ok-label_disks.ensures.labels told)

pub returns-in_err-put_cells-clause-moments : goal.returns-in_err-put_cells-clause-moments
returns-in_err-put_cells-clause-moments g c = λ tells bare. leaves_cells _ _ c.args.devices _ _ _ _ c.put_cells.ensures.rack.sizes bare (c.put_cells.ensures.spares tells)

pub returns-in_err-label_disks-clause-moments : goal.returns-in_err-label_disks-clause-moments
returns-in_err-label_disks-clause-moments g c = λ tells bare.
    let told = c.put_cells.ensures.rack.keeps_telling tells in
    leaves_whole (g.R.Rack.state c.args.rack.now) (g.R.Rack.state c.put_cells.new.rack) (g.R.Rack.state c.label_disks.new.rack) c.args.devices _ _ _ _ _ _
    c.put_cells.ensures.rack.sizes c.label_disks.ensures.rack.sizes bare (c.put_cells.ensures.spares tells) (c.in_ok-put_cells.ensures.cells tells) (c.label_disks.ensures.behind told) (c.label_disks.ensures.moments told)

pub returns-clause-moments : goal.returns-clause-moments
returns-clause-moments g c = λ tells bare.
    let told = c.put_cells.ensures.rack.keeps_telling tells in
    leaves_whole (g.R.Rack.state c.args.rack.now) (g.R.Rack.state c.put_cells.new.rack) (g.R.Rack.state c.label_disks.new.rack) c.args.devices _ _ _ _ _ _
    c.put_cells.ensures.rack.sizes c.label_disks.ensures.rack.sizes bare (c.put_cells.ensures.spares tells) (c.in_ok-put_cells.ensures.cells tells) (c.label_disks.ensures.behind told) (c.label_disks.ensures.moments told)

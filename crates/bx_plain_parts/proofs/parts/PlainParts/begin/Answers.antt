use Rattle.std.proofs.Common.{arith}
use Rattle.bx_layout.specs.Labels.{IsLabel}
use Rattle.bx_plain.specs.Begin.{plain_state}
use Rattle.bx_plain_openings.specs.bx_format_openings.proofs.Formatted.{formatted_rests}
use Rattle.bx_plain_openings.proofs.Plain.{plain_devices}
use Rattle.bx_plain_parts.proofs.parts.PlainParts.begin.Goals as goal

pub returns-clause-rests : goal.returns-clause-rests
returns-clause-rests g c = λ tells.
    let shape = c.args.shape in
    let sizes = c.requires.sizes in
    let label : IsLabel (record { volume = c.args.volume; disk = 0; devices = shape.devices; areas = shape.areas }) = record {
      volume = c.ranges.volume.fits;
      disk = omega arith;
      least_devices = sizes.least_devices;
      most_devices = sizes.most_devices;
      least_areas = sizes.least_areas;
      most_areas = sizes.most_areas;
    } in
    formatted_rests (g.R.Rack.state c.format.new.rack) c.args.volume shape.nodes shape.devices shape.areas (plain_state shape.nodes shape.devices) label (plain_devices shape.nodes shape.devices) (c.in_ok-format.ensures.formatted tells)

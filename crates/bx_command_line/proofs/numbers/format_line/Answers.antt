use Rattle.std.proofs.Common.{◌≡◌, ◌∙◌, arith, codes, refl, sym}
use Rattle.std.specs.Prelude.{decimal, string_bytes}
use Rattle.bx_command_line.proofs.WordLists.{are_four, not_other}
use Rattle.bx_command_line.proofs.numbers.format_line.Goals as goal

pub returns-clause-some : goal.returns-clause-some
returns-clause-some c =
    let words = are_four string_bytes c.args.words.now c.name-item.result c.volume-item.result c.devices-item.result c.areas-item.result c.in-len4.len_at_least c.in-len4.len_below
    c.name-item.is c.volume-item.is c.devices-item.is c.areas-item.is in
    let name : string_bytes c.name-item.result ≡ codes "format" = sym c.as_str.ensures.value ∙ not_other c.as_str.result.now (codes "format") c.ne.result c.ne.ensures c.if-ne.false in
    let volume = c.in_ok-number.ensures.some in
    let devices = c.in_ok-number-2.ensures.some in
    let areas = c.in_ok-number-3.ensures.some in
    let volume_is : string_bytes c.volume-item.result ≡ decimal c.in_ok-number.field-0 = sym c.as_str-2.ensures.value ∙ volume.0 in
    let devices_is : string_bytes c.devices-item.result ≡ decimal c.in_ok-number-2.field-0 = sym c.as_str-3.ensures.value ∙ devices.0 in
    let areas_is : string_bytes c.areas-item.result ≡ decimal c.in_ok-number-3.field-0 = sym c.as_str-4.ensures.value ∙ areas.0 in
    record {
      are = words ∙ rw (name, volume_is, devices_is, areas_is) refl;
      in_range = record {
        most_volume = let most = volume.2 in omega (arith, most);
        least_devices = devices.1;
        most_devices = devices.2;
        least_areas = areas.1;
        most_areas = areas.2;
      };
    }

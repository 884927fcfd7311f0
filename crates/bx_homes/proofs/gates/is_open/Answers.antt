use Rattle.std.proofs.Common.{◌≡◌, ℕ, ap, sym, ◌∙◌, subst, arith}
use Rattle.bx_layout.specs.Labels.{IsOpenGate}
use Rattle.bx_places.specs.Places.{gate_place}
use Rattle.bx_volume.specs.Images.{member_disk}
use Rattle.bx_homes.proofs.Sectors.{sector_read}
use Rattle.bx_homes.proofs.gates.is_open.Goals as goal

pub returns-clause-answer : goal.returns-clause-answer
returns-clause-answer g c = λ tells.
    let reads = (g.R.Rack.state c.args.rack.now).reads in
    let place = gate_place c.args.slot c.args.gate c.args.devices in
    let read = sector_read reads c.member_disk.result c.gate_place-device.result.1 c.read_sectors.new.into (omega (arith, c.read_sectors.auto.into)) (c.in_ok-read_sectors.ensures.bytes tells) in
    let disk : c.member_disk.result ≡ member_disk place.0 c.args.second = c.member_disk.ensures ∙ ap (λ (p : ℕ × ℕ). member_disk p.0 c.args.second) c.gate_place-device.ensures in
    let sector : c.gate_place-device.result.1 ≡ place.1 = ap (λ (p : ℕ × ℕ). p.1) c.gate_place-device.ensures in
    let here : reads (member_disk place.0 c.args.second) place.1 ≡ c.read_sectors.new.into = sym (ap (λ (d : ℕ). reads d c.gate_place-device.result.1) disk ∙ ap (reads (member_disk place.0 c.args.second)) sector) ∙ read in
    (λ yes. subst IsOpenGate (sym here) (c.reads_open.ensures.0 yes), λ open_there. c.reads_open.ensures.1 (subst IsOpenGate here open_there))

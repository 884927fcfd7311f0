use Rattle.std.proofs.Common.{◌≡◌, true, sym, ap, subst, ◌∙◌, arith}
use Rattle.std.proofs.lemmas.Slice.Eq.{bytes_eq-Decides}
use Rattle.bx_base.specs.Writing.{padded}
use Rattle.bx_layout.specs.declared.label.Label.{Label}
use Rattle.bx_layout.specs.Labels.{IsLabel, label_text}
use Rattle.bx_layout.proofs.LabelFields.{volume_in, disk_in, devices_in, areas_in, same_label}
use Rattle.bx_layout.proofs.label.Label.read.Goals as goal

pub returns-then-not-is_allowed-clause-none : goal.returns-then-not-is_allowed-clause-none
returns-then-not-is_allowed-clause-none c = λ label s.
    let sector = c.args.sector.now in
    let volume : c.read_u64.result ≡ label.volume = omega (arith, c.read_u64.ensures, volume_in label sector s) in
    let disk : c.read_u32.result ≡ label.disk = omega (arith, c.read_u32.ensures, disk_in label sector s) in
    let devices : c.read_u32-2.result ≡ label.devices = omega (arith, c.read_u32-2.ensures, devices_in label sector s) in
    let areas : c.read_u32-3.result ≡ label.areas = omega (arith, c.read_u32-3.ensures, areas_in label sector s) in
    let one = same_label c.read_u64.result c.read_u32.result c.read_u32-2.result c.read_u32-3.result label volume disk devices areas in
    let is = c.is_allowed.ensures.1 (subst IsLabel (sym one) s.is) in
    let other = c.if-not-is_allowed.true in
    absurd cc

pub returns-else-eq-clause-none : goal.returns-else-eq-clause-none
returns-else-eq-clause-none c = λ label s.
    let sector = c.args.sector.now in
    let volume : c.read_u64.result ≡ label.volume = omega (arith, c.read_u64.ensures, volume_in label sector s) in
    let disk : c.read_u32.result ≡ label.disk = omega (arith, c.read_u32.ensures, disk_in label sector s) in
    let devices : c.read_u32-2.result ≡ label.devices = omega (arith, c.read_u32-2.ensures, devices_in label sector s) in
    let areas : c.read_u32-3.result ≡ label.areas = omega (arith, c.read_u32-3.ensures, areas_in label sector s) in
    let one = same_label c.read_u64.result c.read_u32.result c.read_u32-2.result c.read_u32-3.result label volume disk devices areas in
    let text = s.parts ∙ sym (c.as_slice.ensures ∙ c.write.ensures ∙ ap (λ (l : Label). padded 512 (label_text l)) one) in
    let passes : c.eq.result ≡ true = c.eq.ensures ∙ (bytes_eq-Decides sector c.as_slice.result.now).1 text in
    let fails = c.if-eq.false in
    absurd cc

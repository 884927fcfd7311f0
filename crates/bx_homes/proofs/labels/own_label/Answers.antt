use Rattle.std.proofs.Common.{◌≡◌, ◌≤◌, ℕ, sym, subst, arith}
use Rattle.bx_layout.specs.Labels.{SpellsLabel}
use Rattle.bx_places.specs.Places.{disk_sectors}
use Rattle.bx_volume.specs.Images.{IsOwnLabel}
use Rattle.bx_homes.proofs.Sectors.{not_both, sector_read}
use Rattle.bx_homes.proofs.labels.own_label.Goals as goal

pub returns-in_default-clause-none : goal.returns-in_default-clause-none
returns-in_default-clause-none g c = λ tells label own.
    c.in_default.ensures.none label
    (subst (SpellsLabel label) (sector_read (g.R.Rack.state c.args.rack.now).reads c.args.disk 0 c.read_sectors.new.into (omega (arith, c.read_sectors.auto.into)) (c.in_ok-read_sectors.ensures.bytes tells)) own.spells)

pub returns-then-is_of-clause-some : goal.returns-then-is_of-clause-some
returns-then-is_of-clause-some g c = λ tells.
    let of = c.is_of.ensures.0 c.if-is_of.true in
    let here = sector_read (g.R.Rack.state c.args.rack.now).reads c.args.disk 0 c.read_sectors.new.into (omega (arith, c.read_sectors.auto.into)) (c.in_ok-read_sectors.ensures.bytes tells) in
    record {
      spells = subst (SpellsLabel c.in-Some.label) (sym here) c.in-Some.ensures.some;
      names = of.0;
      there = of.1;
      long_enough = subst (λ (n : ℕ). disk_sectors c.in-Some.label.devices c.in-Some.label.areas c.args.disk ≤ n) c.sectors_of-sectors.ensures.sectors of.2;
    }

pub returns-else-is_of-clause-none : goal.returns-else-is_of-clause-none
returns-else-is_of-clause-none g c = λ tells label own.
    let here = sector_read (g.R.Rack.state c.args.rack.now).reads c.args.disk 0 c.read_sectors.new.into (omega (arith, c.read_sectors.auto.into)) (c.in_ok-read_sectors.ensures.bytes tells) in
    let same : label ≡ c.in-Some.label = c.one_reading.ensures.label label c.in-Some.label c.read_sectors.new.into (subst (SpellsLabel label) here own.spells) c.in-Some.ensures.some in
    let mine : IsOwnLabel (g.R.Rack.state c.args.rack.now).sizes (g.R.Rack.state c.args.rack.now).reads c.args.disk c.in-Some.label = subst (IsOwnLabel (g.R.Rack.state c.args.rack.now).sizes (g.R.Rack.state c.args.rack.now).reads c.args.disk) same own in
    let yes = c.is_of.ensures.1 (mine.names, mine.there, subst (λ (n : ℕ). disk_sectors c.in-Some.label.devices c.in-Some.label.areas c.args.disk ≤ n) (sym c.sectors_of-sectors.ensures.sectors) mine.long_enough) in
    not_both c.is_of.result yes c.if-is_of.false

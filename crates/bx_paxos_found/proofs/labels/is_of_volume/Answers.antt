use Rattle.std.proofs.Common.{arith}
use Rattle.bx_paxos_found.proofs.Labelling.{on_none, on_only, on_so}
use Rattle.bx_paxos_found.proofs.Sectors.{first_sector}
use Rattle.bx_paxos_found.proofs.labels.is_of_volume.Goals as goal

pub returns-in-Some-clause-is : goal.returns-in-Some-clause-is
returns-in-Some-clause-is g c = λ tells.
    let here = first_sector (g.R.Rack.state c.args.rack.now).reads c.args.replica c.read_sectors.new.into (omega (arith, c.read_sectors.auto.into)) (c.in_ok-read_sectors.ensures.bytes tells) in (
      λ is. on_so (g.R.Rack.state c.args.rack.now).sizes (g.R.Rack.state c.args.rack.now).reads c.args.replica c.read_sectors.new.into here c.in-Some.label c.args.first.now c.in-Some.ensures.some (c.is_on.ensures.0 is),
      λ on. c.is_on.ensures.1 (on_only (g.R.Rack.state c.args.rack.now).sizes (g.R.Rack.state c.args.rack.now).reads c.args.replica c.read_sectors.new.into here c.in-Some.label c.args.first.now c.in-Some.ensures.some on),
    )

pub returns-in-None-clause-is : goal.returns-in-None-clause-is
returns-in-None-clause-is g c = λ tells.
    let here = first_sector (g.R.Rack.state c.args.rack.now).reads c.args.replica c.read_sectors.new.into (omega (arith, c.read_sectors.auto.into)) (c.in_ok-read_sectors.ensures.bytes tells) in
    (λ is. absurd cc, λ on. absurd (on_none (g.R.Rack.state c.args.rack.now).sizes (g.R.Rack.state c.args.rack.now).reads c.args.replica c.read_sectors.new.into here c.in-None.ensures.none c.args.first.now on))

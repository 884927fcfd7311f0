use Rattle.std.proofs.Common.{arith}
use Rattle.bx_paxos_found.proofs.Labelling.{none_there, other_there, own_there}
use Rattle.bx_paxos_found.proofs.Sectors.{first_sector}
use Rattle.bx_paxos_found.proofs.labels.own_label.Goals as goal

pub returns-in_default-clause-none : goal.returns-in_default-clause-none
returns-in_default-clause-none g c = λ tells.
    let here = first_sector (g.R.Rack.state c.args.rack.now).reads c.args.replica c.read_sectors.new.into (omega (arith, c.read_sectors.auto.into)) (c.in_ok-read_sectors.ensures.bytes tells) in
    none_there (g.R.Rack.state c.args.rack.now).sizes (g.R.Rack.state c.args.rack.now).reads c.args.replica c.read_sectors.new.into here c.in_default.ensures.none

pub returns-then-label-replica-clause-some : goal.returns-then-label-replica-clause-some
returns-then-label-replica-clause-some g c = λ tells.
    let here = first_sector (g.R.Rack.state c.args.rack.now).reads c.args.replica c.read_sectors.new.into (omega (arith, c.read_sectors.auto.into)) (c.in_ok-read_sectors.ensures.bytes tells) in
    own_there (g.R.Rack.state c.args.rack.now).sizes (g.R.Rack.state c.args.rack.now).reads c.args.replica c.read_sectors.new.into here c.in-Some.label (c.is_whole.ensures.0 c.if-not-is_whole.false) c.in-Some.ensures.some c.if-label-replica.true

pub returns-else-label-replica-clause-none : goal.returns-else-label-replica-clause-none
returns-else-label-replica-clause-none g c = λ tells.
    let here = first_sector (g.R.Rack.state c.args.rack.now).reads c.args.replica c.read_sectors.new.into (omega (arith, c.read_sectors.auto.into)) (c.in_ok-read_sectors.ensures.bytes tells) in
    other_there (g.R.Rack.state c.args.rack.now).sizes (g.R.Rack.state c.args.rack.now).reads c.args.replica c.read_sectors.new.into here c.in-Some.label c.in-Some.ensures.some c.if-label-replica.false

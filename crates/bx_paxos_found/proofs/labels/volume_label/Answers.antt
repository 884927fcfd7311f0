use Rattle.bx_facts.specs.Labelled.{IsFirstLabel}
use Rattle.bx_paxos_found.proofs.Labelling.{apart_devices, none_labelled, of_none, of_some}
use Rattle.bx_paxos_found.proofs.labels.volume_label.Goals as goal

pub returns-in_default-clause-none : goal.returns-in_default-clause-none
returns-in_default-clause-none g c = λ tells. none_labelled c.args.devices (g.R.Rack.state c.args.rack.now).sizes (g.R.Rack.state c.args.rack.now).reads (of_none c.in_ok-first.field-0 c.in_default.is (c.in_ok-first.ensures.none tells))

pub returns-else-first-devices-clause-none : goal.returns-else-first-devices-clause-none
returns-else-first-devices-clause-none g c = λ tells.
    let x = g.R.Rack.state c.args.rack.now in
    apart_devices c.args.devices x.sizes x.reads c.in-Some.first (of_some (IsFirstLabel x.sizes x.reads) c.in_ok-first.field-0 c.in-Some.first c.in-Some.is (c.in_ok-first.ensures.some tells)) c.if-first-devices.false

use Rattle.std.proofs.Common.{◌≡◌, [], Ok}
use Rattle.bx_host.specs.Standing.{CanGo, Goes}
use Rattle.bx_host.specs.Steps.{Along}
use Rattle.bx_host.specs.Turns.{IsDueNow}
use Rattle.bx_host.proofs.host.Host.run.Given as goal

abbrev pub invariant-loop-event : goal.invariant-loop-event
invariant-loop-event g l = record {
  so : Goes g.C.Shows.seen g.C.Cluster.room g.C.Cluster.led g.R.Rack {A = Unit {0}} (Ok tt) (Along (IsDueNow l.fn.self.reading)) [] l.fn.self l.fn.rack l.self l.rack;
  can : CanGo g.C.Shows.seen g.C.Cluster.room g.C.Cluster.led g.R.Rack l.self l.rack;
  events : g.C.Cluster.events l.self.cluster ≡ g.C.Cluster.events l.fn.self.cluster;
}

abbrev pub decreases-loop-event : goal.decreases-loop-event
decreases-loop-event g l = l.self.left

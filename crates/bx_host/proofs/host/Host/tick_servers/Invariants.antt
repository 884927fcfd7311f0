use Rattle.std.proofs.Common.{◌≡◌, [], Ok}
use Rattle.bx_base.specs.declared.names.Actor.TheVariants.{Server}
use Rattle.bx_host.specs.Standing.{CanGo, Goes}
use Rattle.bx_host.specs.Turns.{AreTicked}
use Rattle.bx_host.proofs.host.Host.tick_servers.Given as goal

abbrev pub invariant-loop-server : goal.invariant-loop-server
invariant-loop-server g l = record {
  so : Goes g.C.Shows.seen g.C.Cluster.room g.C.Cluster.led g.R.Rack {A = Unit {0}} (Ok tt) (AreTicked Server l.fn.self.reading l.server) [] l.fn.self l.fn.rack l.self l.rack;
  can : CanGo g.C.Shows.seen g.C.Cluster.room g.C.Cluster.led g.R.Rack l.self l.rack;
  events : g.C.Cluster.events l.self.cluster ≡ g.C.Cluster.events l.fn.self.cluster;
}

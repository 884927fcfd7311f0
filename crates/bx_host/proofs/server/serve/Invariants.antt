use Rattle.std.proofs.Common.{◌+◌, ◌≤◌}
use Rattle.bx_host.specs.Hearing.{KeepsLink}
use Rattle.bx_host.specs.Serves.{KeepsSink}
use Rattle.bx_host.specs.Standing.{CanGo, KeepsRack}
use Rattle.bx_host.proofs.Serving.{SoFar}
use Rattle.bx_host.proofs.server.serve.Given as goal

abbrev pub invariant-loop : goal.invariant-loop
invariant-loop g l = record {
  so : SoFar g.C.Shows.seen g.C.Cluster.room g.C.Cluster.led g.R.Rack g.L.Link g.K.Clock g.S.Sink l.fn.cluster l.fn.rack l.fn.link l.fn.clock l.fn.out l.host l.rack l.link l.clock l.out l.counter;
  can : CanGo g.C.Shows.seen g.C.Cluster.room g.C.Cluster.led g.R.Rack l.host l.rack;
  events : g.C.Cluster.events l.host.cluster ≤ g.C.Cluster.events l.fn.cluster + l.counter;
  rack : KeepsRack g.R.Rack l.fn.rack l.rack;
  link : KeepsLink g.L.Link l.fn.link l.link;
  out : KeepsSink g.S.Sink l.fn.out l.out;
}

use Rattle.std.proofs.Common.{◌≤◌, ap, arith, refl}
use Rattle.std.proofs.lemmas.Bool.Decides.{nat_tests}
use Rattle.bx_host.specs.Turns.{IsNodeTicked}
use Rattle.bx_host.specs.Turns.IsNodeTicked.{Early}
use Rattle.bx_host.proofs.Acting.{goes_none}
use Rattle.bx_host.proofs.host.Host.tick_node.Goals as goal

pub returns-then-state-self-clause-ends : goal.returns-then-state-self-clause-ends
returns-then-state-self-clause-ends g c =
    let is = ap (λ s. s.term) c.state.ensures in
    let early : (g.C.Shows.seen c.args.self.now.cluster).most.term ≤ c.args.self.now.first = grind (arith, nat_tests, is, c.if-state-self.true) in
    goes_none g.C.Shows.seen g.C.Cluster.room g.C.Cluster.led g.R.Rack (IsNodeTicked c.args.self.now.first c.args.self.now.reading) c.args.self.now c.args.rack.now (Early early (record { none = refl; same = refl }))

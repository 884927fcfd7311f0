use Rattle.std.proofs.Common.{◌≡◌, arith, inl, inr, refl, sym, ◌∙◌}
use Rattle.std.proofs.lemmas.Bool.Decides.{nat_tests}
use Rattle.bx_host.specs.Turns.{IsTicked}
use Rattle.bx_host.specs.Turns.IsTicked.{Passed}
use Rattle.bx_host.proofs.Acting.{goes_none}
use Rattle.bx_host.proofs.host.Host.tick.Goals as goal

pub returns-then-self-eq0-clause-ends : goal.returns-then-self-eq0-clause-ends
returns-then-self-eq0-clause-ends g c =
    let none : c.args.self.now.left ≡ 0 = grind (arith, nat_tests, c.if-self-eq0.true) in
    goes_none g.C.Shows.seen g.C.Cluster.room g.C.Cluster.led g.R.Rack (IsTicked c.args.self.now.reading c.args.at) c.args.self.now c.args.rack.now (Passed (inr none) (record { none = refl; same = refl }))

pub returns-then-is_down-clause-ends : goal.returns-then-is_down-clause-ends
returns-then-is_down-clause-ends g c =
    let down = sym c.is_down.ensures ∙ c.if-is_down.true in
    goes_none g.C.Shows.seen g.C.Cluster.room g.C.Cluster.led g.R.Rack (IsTicked c.args.self.now.reading c.args.at) c.args.self.now c.args.rack.now (Passed (inl down) (record { none = refl; same = refl }))

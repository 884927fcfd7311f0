use Rattle.std.proofs.Common.{◌≡◌, [], subst}
use Rattle.std.proofs.lemmas.List.{append-nil}
use Rattle.bx_host.specs.Standing.{Goes}
use Rattle.bx_host.specs.Steps.{brought_in}
use Rattle.bx_host.specs.Turns.{IsOne, IsRun, IsSettled}
use Rattle.bx_host.proofs.Acting.{goes_both}
use Rattle.bx_host.proofs.Going.{settled}
use Rattle.bx_host.proofs.host.Host.settle.Goals as goal

pub returns-clause-ends : goal.returns-clause-ends
returns-clause-ends g c =
    let reading = c.args.self.now.reading in
    let event = c.args.event.now in
    let act = c.in_ok-act.ensures.ends in
    subst (λ l. Goes g.C.Shows.seen g.C.Cluster.room g.C.Cluster.led g.R.Rack c.run.result (IsSettled (λ its. its ≡ event) reading) l c.args.self.now c.args.rack.now c.run.new.self c.run.new.rack) (append-nil (brought_in event))
    (goes_both g.C.Shows.seen g.C.Cluster.room g.C.Cluster.led g.R.Rack (IsOne event) (IsRun c.act.new.self.reading) (IsSettled (λ its. its ≡ event) reading) (brought_in event) [] c.args.self.now c.act.new.self c.run.new.self c.args.rack.now c.act.new.rack c.run.new.rack c.run.result c.in_ok-act.field-0
    (λ earlier later middle from to one run. settled event reading from middle to earlier later one (subst (λ r. IsRun r middle later to) act.reading run)) act c.run.ensures.ends)

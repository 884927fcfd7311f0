use Rattle.std.proofs.Common.{refl}
use Rattle.bx_paxos_machines.specs.bx_paxos_found.proofs.Refusals.{tell_none, tell_one}
use Rattle.bx_paxos_machines.proofs.Others.{all_ok}
use Rattle.bx_paxos_cluster.proofs.register.PaxosRegister.open.Goals as goal

pub returns-clause-no_majority : goal.returns-clause-no_majority
returns-clause-no_majority r c = λ tells new is. tell_none c.args.self.now.made (r.R.Rack.state c.args.rack.now) (c.open.ensures.no_majority tells is)

pub returns-clause-majority : goal.returns-clause-majority
returns-clause-majority r c = λ tells new.
    all_ok c.open.result _ _ _ _ (c.open.ensures.found tells) c.open.ensures.index c.open.ensures.index (λ read less again. tell_one c.args.self.now.made (r.R.Rack.state c.args.rack.now) _ read less)

pub returns-clause-spent : goal.returns-clause-spent
returns-clause-spent r c = λ boot tells new is.
    let made = c.args.self.now.made in
    let did = c.open.ensures.spent boot tells is in
    let k = did.1 made refl in
    (did.0, tell_one made (r.R.Rack.state c.args.rack.now) k.0 k.1 k.2)

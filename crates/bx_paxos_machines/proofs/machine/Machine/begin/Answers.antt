use Rattle.std.proofs.Common.{◌≡◌, ◌+◌, ◌^◌, ◌<◌, sym, subst, ◌∙◌}
use Rattle.bx_global.specs.Allowed.{IsAllowed}
use Rattle.bx_global.specs.declared.state.GlobalState.{GlobalState}
use Rattle.bx_paxos_machines.specs.Beginning.{IsNew}
use Rattle.bx_paxos_machines.specs.Parts.{IsPart}
use Rattle.bx_paxos_machines.proofs.Beginnings.{starts_first}
use Rattle.bx_paxos_machines.proofs.Others.{all_ok}
use Rattle.bx_acceptor.specs.Starting.{StartsWith}
use Rattle.bx_paxos_machines.proofs.machine.Machine.begin.Goals as goal

pub returns-in-Replica-clause-begun : goal.returns-in-Replica-clause-begun
returns-in-Replica-clause-begun r c = λ nodes made origins tells part are new has.
    let k = c.in-Replica.replica in
    let mine = subst (IsPart nodes made origins) c.in-Replica.is part in
    let fresh = subst (IsNew made) c.in-Replica.is new in
    let did = c.restart.ensures in
    let first : k.acceptor.first ≡ made = sym mine.whole.first ∙ mine.first in
    let acceptor = mine.whole.acceptor in
    all_ok c.restart.result _ _ _ _ (did.starts tells) (did.holds tells) (did.holds tells)
    (λ starts holds again. record {
      course = fresh.course;
      cells = holds;
      knows = starts_first k.acceptor.replica made k.acceptor.origin ((r.R.Rack.state c.args.rack.now).reads k.acceptor.replica) c.restart.new.self.held c.restart.new.self.cell (mine.origin ∙ are k.acceptor.replica mine.whole.low)
          (subst (λ (s : GlobalState). IsAllowed s) first acceptor.first) (subst (λ (s : GlobalState). s.index + 1 < 2 ^ 64) first acceptor.index) (has.each k.acceptor.replica mine.whole.low)
          (subst (λ (s : GlobalState). StartsWith k.acceptor.replica s k.acceptor.origin ((r.R.Rack.state c.args.rack.now).reads k.acceptor.replica) c.restart.new.self.held c.restart.new.self.cell) first starts);
    })

use Rattle.std.proofs.Common.{OnOk, sym, subst}
use Rattle.std.proofs.lemmas.Result.{on_ok_weaker}
use Rattle.bx_facts.specs.Pasts.{proposing, register_with}
use Rattle.bx_paxos.proofs.Replicas.{machine_proposes}
use Rattle.bx_paxos.proofs.Sending.{change_sends}
use Rattle.bx_paxos.specs.Fits.{Fits, Turned, going}
use Rattle.bx_paxos_machines.specs.Parts.{IsOf, IsWhole, proposer_of}
use Rattle.bx_paxos_machines.specs.declared.machine.Machine.{Machine}
use Rattle.bx_paxos_machines.proofs.Others.{all_ok}
use Rattle.bx_paxos_machines.proofs.machine.Machine.propose.Goals as goal

pub returns-in-Replica-clause-keeps : goal.returns-in-Replica-clause-keeps
returns-in-Replica-clause-keeps c = λ v x past courses of fits.
    subst (λ (m : Machine). IsOf v m → OnOk c.propose.result (Turned (proposer_of m).actor c.propose.new.self.proposer.course v.courses courses → Fits (going v courses) x (register_with (proposing past c.args.change.now) c.propose.new.out)))
    (sym c.in-Replica.is) (λ o. c.propose.ensures.keeps v x past courses o fits) of

pub returns-in-Other-clause-keeps : goal.returns-in-Other-clause-keeps
returns-in-Other-clause-keeps c = λ v x past courses of fits.
    let p = c.in-Other.proposer in
    let did = c.propose-in-Other.ensures in
    let whole = subst IsWhole c.in-Other.is c.requires.whole in
    let o = subst (IsOf v) c.in-Other.is of in
    all_ok c.propose-in-Other.result _ _ _ _ did.proposes did.legal did.numbers
    (λ proposes legal numbers turned. machine_proposes v x past p c.propose-in-Other.new.self c.args.change.now courses c.args.out.now c.propose-in-Other.new.out whole.actor whole.actor_fits o.1 numbers legal.0 proposes
    (subst (λ (m : Machine). Turned (proposer_of m).actor c.propose-in-Other.new.self.course v.courses courses) c.in-Other.is turned) fits)

pub returns-in-Other-clause-sent : goal.returns-in-Other-clause-sent
returns-in-Other-clause-sent c = on_ok_weaker c.propose-in-Other.result (λ does. change_sends c.in-Other.proposer c.args.change.now c.propose-in-Other.new.self c.args.out.now c.propose-in-Other.new.out does) c.propose-in-Other.ensures.proposes

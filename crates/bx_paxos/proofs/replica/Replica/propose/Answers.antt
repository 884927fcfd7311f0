use Rattle.std.proofs.Common.{Result, Ok, Err, OnOk}
use Rattle.std.proofs.lemmas.Result.{on_ok_weaker}
use Rattle.bx_paxos.proofs.Replicas.{machine_proposes}
use Rattle.bx_paxos.proofs.Sending.{change_sends}
use Rattle.bx_paxos.proofs.replica.Replica.propose.Goals as goal

all_ok : {T E : Type 0} (r : Result T E) (A B C D : Type 0) → OnOk r A → OnOk r B → OnOk r C → (A → B → C → D) → OnOk r D
all_ok (Ok v) A B C D a b c f = f a b c
all_ok (Err e) A B C D a b c f = tt

pub returns-clause-keeps : goal.returns-clause-keeps
returns-clause-keeps c = λ v x past courses of fits.
    let p = c.args.self.now.proposer in
    let halves = c.requires.halves in
    let did = c.propose.ensures in
    all_ok c.propose.result _ _ _ _ did.proposes did.legal did.numbers
    (λ proposes legal numbers turned. machine_proposes v x past p c.propose.new.self c.args.change.now courses c.args.out.now c.propose.new.out halves.proposer.actor halves.proposer.actor_fits of.course numbers legal.0 proposes turned fits)

pub returns-clause-sent : goal.returns-clause-sent
returns-clause-sent c = on_ok_weaker c.propose.result (λ does. change_sends c.args.self.now.proposer c.args.change.now c.propose.new.self c.args.out.now c.propose.new.out does) c.propose.ensures.proposes

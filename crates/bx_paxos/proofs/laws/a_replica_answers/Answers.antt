use Rattle.bx_paxos.proofs.Events.{answers}
use Rattle.bx_paxos.proofs.laws.a_replica_answers.Goals as goal

pub returns : goal.returns
returns c = λ v x y past n held now found after letter message answer fits three knows then put keeps comes does.
    answers v x y past n held now found after letter message answer fits three knows then put keeps comes.sent comes.spells does

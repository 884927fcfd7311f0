use Rattle.bx_paxos_cluster.proofs.register.PaxosRegister.restart.Goals as goal

pub returns-clause-any_moment : goal.returns-clause-any_moment
returns-clause-any_moment r c = λ past tells keeps down above. c.restart.ensures.any_moment past tells keeps

use Rattle.std.proofs.Common.{max}
use Rattle.bx_clerk.proofs.Sending.{sends_only}
use Rattle.bx_clerk.specs.Clerks.{giving_words}
use Rattle.bx_clerk.specs.Requests.{request_in}
use Rattle.bx_locks.specs.Machines.{clerk_of}
use Rattle.bx_locks.proofs.Called.{give_asked, give_beside, give_gone}
use Rattle.bx_locks.proofs.Keeping.{give_keeps}
use Rattle.bx_locks.proofs.Results.{on_both, on_ok}
use Rattle.bx_locks.proofs.owners.LocksOwners.give_up.Goals as goal

pub returns-clause-gone : goal.returns-clause-gone
returns-clause-gone c = on_ok c.give_up.result (λ gives. give_gone c.args.node c.args.block c.args.index c.args.self.now c.give_up.new.self gives) c.give_up.ensures.gives

pub returns-clause-requests : goal.returns-clause-requests
returns-clause-requests c = λ other at. on_ok c.give_up.result (λ gives. give_beside c.args.node c.args.block c.args.index other at c.args.self.now c.give_up.new.self c.give_up.ensures.only gives) c.give_up.ensures.gives

pub returns-clause-asks : goal.returns-clause-asks
returns-clause-asks c = on_ok c.give_up.result (λ gives. give_asked c.args.node c.args.block c.args.index c.args.self.now c.give_up.new.self gives) c.give_up.ensures.gives

pub returns-clause-sent : goal.returns-clause-sent
returns-clause-sent c =
    let clerk = clerk_of c.args.self.now c.args.node in
    on_ok c.give_up.result (λ sends. sends_only clerk.node clerk.server (giving_words clerk.session c.args.block (request_in clerk.requests c.args.block) (max clerk.given c.args.index)) c.args.out.now c.give_up.new.out sends) c.give_up.ensures.sends

pub returns-clause-keeps : goal.returns-clause-keeps
returns-clause-keeps c = λ past session s keeps up own place at_index live. on_both c.give_up.result (λ gives sends. give_keeps c.args.node c.args.block c.args.index c.args.self.now c.give_up.new.self past c.args.out.now c.give_up.new.out session s keeps own place at_index live c.requires.held c.give_up.ensures.only gives sends) c.give_up.ensures.gives c.give_up.ensures.sends

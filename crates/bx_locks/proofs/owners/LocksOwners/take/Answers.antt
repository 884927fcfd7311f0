use Rattle.std.proofs.Common.{Option}
use Rattle.bx_global.specs.declared.change.Change.{Change}
use Rattle.bx_locks.specs.Events.{input_for}
use Rattle.bx_locks.proofs.Taking.{event_kind, event_requests, event_sends}
use Rattle.bx_locks.proofs.Keeping.{event_keeps, event_session}
use Rattle.bx_locks.proofs.Results.{if_ok, on_value}
use Rattle.bx_locks.proofs.owners.LocksOwners.take.Goals as goal

pub returns-clause-requests : goal.returns-clause-requests
returns-clause-requests c = λ node block. on_value c.take.result (λ (change : Option Change) does. event_requests c.args.at node block c.args.known.now c.args.input.now c.args.self.now c.take.new.self change c.args.out.now c.take.new.out does c.take.ensures.only) c.take.ensures.takes

pub returns-clause-kind : goal.returns-clause-kind
returns-clause-kind c = if_ok c.take.result (λ (change : Option Change) does. event_kind c.args.at c.args.known.now (input_for c.args.at c.args.input.now) c.args.self.now c.take.new.self change c.args.out.now c.take.new.out does) c.take.ensures.takes

pub returns-clause-sent : goal.returns-clause-sent
returns-clause-sent c = on_value c.take.result (λ (change : Option Change) does. event_sends c.args.at c.args.known.now (input_for c.args.at c.args.input.now) c.args.self.now c.take.new.self change c.args.out.now c.take.new.out does) c.take.ensures.takes

pub returns-clause-keeps : goal.returns-clause-keeps
returns-clause-keeps c = λ past keeps may. if_ok c.take.result (λ (change : Option Change) does. event_keeps c.args.known.now c.args.input.now c.args.self.now c.take.new.self past c.args.out.now c.take.new.out change keeps c.args.at c.take.ensures.only c.requires.there may does) c.take.ensures.takes

pub returns-clause-session : goal.returns-clause-session
returns-clause-session c = λ past node keeps may is. on_value c.take.result (λ (change : Option Change) does. event_session c.args.at node c.args.known.now c.args.input.now c.args.self.now c.take.new.self past c.args.out.now c.take.new.out change keeps may c.requires.there is does) c.take.ensures.takes

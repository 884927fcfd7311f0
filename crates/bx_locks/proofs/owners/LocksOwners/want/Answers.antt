use Rattle.std.proofs.Common.{inl, inr, ap}
use Rattle.bx_clerk.proofs.Sending.{sends_only}
use Rattle.bx_clerk.specs.Clerks.{asking_words}
use Rattle.bx_clerk.specs.Requests.{hold_of, wish_of}
use Rattle.bx_locks.specs.Machines.{clerk_of}
use Rattle.bx_locks.proofs.Called.{want_asked, want_beside, want_spent, want_wants}
use Rattle.bx_locks.proofs.Keeping.{want_keeps}
use Rattle.bx_locks.proofs.Results.{on_both, on_ok}
use Rattle.bx_locks.proofs.owners.LocksOwners.want.Goals as goal

pub returns-clause-wants : goal.returns-clause-wants
returns-clause-wants c = on_both c.want.result (λ asks sends. want_wants c.args.node c.args.block c.args.mode c.args.self.now c.want.new.self c.args.out.now c.want.new.out c.requires.session asks sends) c.want.ensures.asks c.want.ensures.sends

pub returns-clause-requests : goal.returns-clause-requests
returns-clause-requests c = λ other apart. on_ok c.want.result (λ asks.
    inr (ap wish_of (want_beside c.args.node c.args.block other c.args.block c.args.mode c.args.self.now c.want.new.self c.want.ensures.only asks (inl apart)))) c.want.ensures.asks

pub returns-clause-other_blocks : goal.returns-clause-other_blocks
returns-clause-other_blocks c = λ other at apart. on_ok c.want.result (λ asks.
    let same = want_beside c.args.node c.args.block other at c.args.mode c.args.self.now c.want.new.self c.want.ensures.only asks (inr apart) in
    (ap wish_of same, ap hold_of same)) c.want.ensures.asks

pub returns-clause-spent : goal.returns-clause-spent
returns-clause-spent c = λ spent. on_ok c.want.result (λ asks. want_spent c.args.node c.args.block c.args.mode c.args.self.now c.want.new.self asks spent) c.want.ensures.asks

pub returns-clause-asks : goal.returns-clause-asks
returns-clause-asks c = on_ok c.want.result (λ asks. want_asked c.args.node c.args.block c.args.mode c.args.self.now c.want.new.self asks) c.want.ensures.asks

pub returns-clause-sent : goal.returns-clause-sent
returns-clause-sent c =
    let clerk = clerk_of c.args.self.now c.args.node in
    on_ok c.want.result (λ sends. sends_only clerk.node clerk.server (asking_words clerk.session c.args.block c.args.mode clerk) c.args.out.now c.want.new.out sends) c.want.ensures.sends

pub returns-clause-keeps : goal.returns-clause-keeps
returns-clause-keeps c = λ past session keeps up own. on_both c.want.result (λ asks sends. want_keeps c.args.node c.args.block c.args.mode c.args.self.now c.want.new.self past c.args.out.now c.want.new.out session keeps own c.ranges.block.fits c.want.ensures.only asks sends) c.want.ensures.asks c.want.ensures.sends

use Rattle.bx_clerk.proofs.Sending.{tick_sends}
use Rattle.bx_clerk.proofs.clerk.Clerk.take.Goals as goal

pub returns-in-Tick-clause-sent : goal.returns-in-Tick-clause-sent
returns-in-Tick-clause-sent c = tick_sends c.learn.new.self c.in-Tick.reading c.take_tick.new.self c.take_tick.result c.args.out.now c.take_tick.new.out c.take_tick.ensures

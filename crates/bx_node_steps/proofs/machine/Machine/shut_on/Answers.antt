use Rattle.bx_node_steps.proofs.LogSteps.{is_closed, shut_sent}
use Rattle.bx_node_steps.proofs.machine.Machine.shut_on.Goals as goal

pub returns-in-Write : goal.returns-in-Write
returns-in-Write c = shut_sent c.args.self.now c.next.new.self c.in_ok-runs.field-0 c.requires.work.1 c.in_ok-runs.ensures.ok c.in-Write.runs c.requires.stage c.requires.work.0 c.in-Write.is

pub returns-in-Closed : goal.returns-in-Closed
returns-in-Closed c = is_closed c.args.self.now c.next.new.self c.in_ok-runs.field-0 c.requires.work.1 c.in_ok-runs.ensures.ok c.requires.stage c.requires.work.0 c.in-Closed.is

use Rattle.std.proofs.lemmas.Result.{IfOk-weaker}
use Rattle.bx_node_steps.proofs.LogSteps.{gate_sent, homes_sent}
use Rattle.bx_node_steps.proofs.machine.Machine.record_on.Goals as goal

pub returns-in-Write : goal.returns-in-Write
returns-in-Write c = gate_sent c.args.self.now c.next.new.self c.in_ok-runs.field-0 c.requires.work.1 c.in_ok-runs.ensures.ok c.requires.stage.0 c.in-Write.runs c.requires.stage.1 c.requires.work.0 c.in-Write.is

pub returns-in-Acked : goal.returns-in-Acked
returns-in-Acked c = IfOk-weaker c.open.result _ _
    (λ step opened. homes_sent c.args.self.now c.next.new.self c.in_ok-runs.field-0 c.requires.work.1 c.in_ok-runs.ensures.ok c.requires.stage.0 c.in-Acked.point c.open.new.self step.runs step.said
    c.requires.stage.1 c.requires.work.0 c.in-Acked.is opened)
    (c.open.ensures c.requires.stage.0 c.requires.stage.1)

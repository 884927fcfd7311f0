use Rattle.bx_node_steps.proofs.LogSteps.{closing_sent}
use Rattle.bx_node_steps.proofs.machine.Machine.close.Goals as goal

pub returns : goal.returns
returns c =
    let stays = c.settle.ensures.stays in
    closing_sent c.args.self.now c.settle.new.self c.close.new.self c.next.new.self c.in_ok-runs.field-0 c.in-Write.runs c.requires.stage c.close.ensures c.in_ok-runs.ensures.ok c.in-Write.is
    (record { devices = stays.1; areas = stays.2; hinted = stays.0 }) c.settle.ensures.kept

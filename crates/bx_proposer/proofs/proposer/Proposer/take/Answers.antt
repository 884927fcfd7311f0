use Rattle.bx_proposer.proofs.Standing.{takes_kept}
use Rattle.bx_proposer.proofs.proposer.Proposer.take.Goals as goal

pub invariant_of-self-in_err-ask_at : goal.invariant_of-self-in_err-ask_at
invariant_of-self-in_err-ask_at c = takes_kept _ c.len-devices.result c.step.new.course c.args.input.now c.in_ok-move_on.move_on c.len-devices.ensures c.self.invariant c.in_ok-move_on.ensures.steps

pub returns-in_err-ask_at-clause-standing : goal.returns-in_err-ask_at-clause-standing
returns-in_err-ask_at-clause-standing c = takes_kept _ c.len-devices.result c.step.new.course c.args.input.now c.in_ok-move_on.move_on c.len-devices.ensures c.self.invariant c.in_ok-move_on.ensures.steps

pub invariant_of-self-2 : goal.invariant_of-self-2
invariant_of-self-2 c = takes_kept _ c.len-devices.result c.step.new.course c.args.input.now c.in_ok-move_on.move_on c.len-devices.ensures c.self.invariant c.in_ok-move_on.ensures.steps

pub returns-clause-standing : goal.returns-clause-standing
returns-clause-standing c = takes_kept _ c.len-devices.result c.step.new.course c.args.input.now c.in_ok-move_on.move_on c.len-devices.ensures c.self.invariant c.in_ok-move_on.ensures.steps

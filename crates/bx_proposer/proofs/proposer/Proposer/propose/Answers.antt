use Rattle.bx_proposer.proofs.Standing.{change_kept}
use Rattle.bx_proposer.proofs.proposer.Proposer.propose.Goals as goal

pub invariant_of-self-in_err-tell : goal.invariant_of-self-in_err-tell
invariant_of-self-in_err-tell c = let did = c.in_ok-move_on.ensures in change_kept _ c.propose.new.course c.args.change.now c.in_ok-move_on.move_on c.self.invariant did.ok.0 did.numbers did.ok.2

pub returns-in_err-tell-clause-standing : goal.returns-in_err-tell-clause-standing
returns-in_err-tell-clause-standing c = let did = c.in_ok-move_on.ensures in change_kept _ c.propose.new.course c.args.change.now c.in_ok-move_on.move_on c.self.invariant did.ok.0 did.numbers did.ok.2

pub invariant_of-self-2 : goal.invariant_of-self-2
invariant_of-self-2 c = let did = c.in_ok-move_on.ensures in change_kept _ c.propose.new.course c.args.change.now c.in_ok-move_on.move_on c.self.invariant did.ok.0 did.numbers did.ok.2

pub returns-clause-standing : goal.returns-clause-standing
returns-clause-standing c = let did = c.in_ok-move_on.ensures in change_kept _ c.propose.new.course c.args.change.now c.in_ok-move_on.move_on c.self.invariant did.ok.0 did.numbers did.ok.2

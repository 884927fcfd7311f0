use Rattle.bx_audit.proofs.Walked.{none_met, shown}
use Rattle.bx_audit.proofs.walks.walk_of.Goals as goal

pub returns-clause-ok : goal.returns-clause-ok
returns-clause-ok g c = λ tells chunks headed. c.walk.ensures.ok chunks (shown _ _ _ chunks tells headed)

pub returns-clause-torn : goal.returns-clause-torn
returns-clause-torn g c = λ tells chunks headed. c.walk.ensures.torn chunks (shown _ _ _ chunks tells headed)

pub returns-clause-none : goal.returns-clause-none
returns-clause-none g c = λ tells. none_met (g.B.Blocks.tells c.args.blocks.now) c.args.areas (g.B.Blocks.stands c.args.blocks.now) c.requires.blocks.most c.walk.result tells (g.met.B.Blocks.one c.args.blocks.now) c.walk.ensures.torn

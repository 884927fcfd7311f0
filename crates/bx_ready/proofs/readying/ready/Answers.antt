use Rattle.bx_ready.proofs.Files.{keeps}
use Rattle.bx_ready.proofs.Lacks.{finds, lacks}
use Rattle.bx_ready.proofs.readying.ready.Goals as goal

pub returns-clause-files : goal.returns-clause-files
returns-clause-files g c = λ truth tree f.
    keeps c.args.at.now.areas (g.V.View.held c.args.view.now) (g.V.View.hints c.args.view.now) truth c.args.at.now.root tree c.args.at.now.key.now f c.first_of.result (λ pages u. c.first_of.ensures.map truth pages u)

pub returns-clause-lacks : goal.returns-clause-lacks
returns-clause-lacks g c = λ truth tree u.
    lacks c.args.at.now.areas (g.V.View.held c.args.view.now) (g.V.View.hints c.args.view.now) truth c.args.at.now.root tree c.args.at.now.key.now u c.first_of.result (c.first_of.ensures.map truth tree u)

pub returns-clause-finds : goal.returns-clause-finds
returns-clause-finds g c = λ truth tree u.
    finds c.args.at.now.areas (g.V.View.held c.args.view.now) (g.V.View.hints c.args.view.now) truth c.args.at.now.root tree c.args.at.now.key.now u c.first_of.result (c.first_of.ensures.map truth tree u)

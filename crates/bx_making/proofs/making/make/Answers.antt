use Rattle.bx_making.proofs.FileMade.{makes_in}
use Rattle.bx_making.proofs.Steps.{makes_held, needs}
use Rattle.bx_making.proofs.making.make.Goals as goal

pub returns-clause-tree : goal.returns-clause-tree
returns-clause-tree g c = λ truth tree body few same is empty.
    makes_in c.args.areas c.args.near (g.V.View.held c.args.view.now) truth c.args.draft.now c.make_file.new.draft tree c.args.inode body few same is empty c.make_file.result c.make_file.ensures.at

pub returns-clause-fair : goal.returns-clause-fair
returns-clause-fair g c =
    needs c.args.areas c.args.near (g.V.View.held c.args.view.now) c.args.draft.now c.make_file.new.draft c.args.inode (λ at block is. g.met.V.View.shares c.args.view.now at block is) c.make_file.result c.make_file.ensures.at

pub returns-clause-held : goal.returns-clause-held
returns-clause-held g c = λ before.
    makes_held c.args.areas c.args.near (g.V.View.held c.args.view.now) c.args.draft.now c.make_file.new.draft c.args.inode before c.make_file.result c.make_file.ensures.at

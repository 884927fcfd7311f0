use Rattle.bx_making.proofs.LinkMade.{link_held, link_needs, links_in}
use Rattle.bx_making.proofs.links.make_link.Goals as goal

pub returns-clause-tree : goal.returns-clause-tree
returns-clause-tree g c = λ truth tree few same is kind no_tree.
    links_in c.args.areas c.args.near (g.V.View.held c.args.view.now) truth c.args.draft.now c.link_seen.new.draft tree c.args.inode.now few same is kind no_tree c.link_seen.result c.link_seen.ensures.at

pub returns-clause-fair : goal.returns-clause-fair
returns-clause-fair g c =
    link_needs c.args.areas c.args.near (g.V.View.held c.args.view.now) c.args.draft.now c.link_seen.new.draft c.args.inode.now (λ at block is. g.met.V.View.shares c.args.view.now at block is) c.link_seen.result c.link_seen.ensures.at

pub returns-clause-held : goal.returns-clause-held
returns-clause-held g c = λ before.
    link_held c.args.areas c.args.near (g.V.View.held c.args.view.now) c.args.draft.now c.link_seen.new.draft c.args.inode.now before c.link_seen.result c.link_seen.ensures.at

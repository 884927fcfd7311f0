use Rattle.bx_inodes.proofs.Found.{file_read}
use Rattle.bx_inodes.proofs.inodes.inode_at.Goals as goal

pub returns-clause-tree : goal.returns-clause-tree
returns-clause-tree g c = λ truth tree same is.
    file_read (g.V.View.held c.args.view.now) (g.V.View.hints c.args.view.now) c.args.areas truth c.args.draft.now tree c.args.handle c.args.mode same is c.live_inode.result c.live_inode.ensures

use Rattle.std.proofs.Common.{rules}
use Rattle.bx_inodes.proofs.Written.{put_held, put_stands}
use Rattle.bx_inodes.proofs.writing.put_inode.Goals as goal

pub returns-in-Ok-clause-puts : goal.returns-in-Ok-clause-puts
returns-in-Ok-clause-puts c = search rules

pub returns-in-Ok-clause-tree : goal.returns-in-Ok-clause-tree
returns-in-Ok-clause-tree c = λ areas truth tree file file_now old is there holds keeps fields same_handle same_body.
    put_stands areas truth c.args.draft.now c.put.new.self tree c.args.handle file file_now old c.args.inode.now is there holds keeps fields same_handle same_body (returns-in-Ok-clause-puts c)

pub returns-in-Ok-clause-held : goal.returns-in-Ok-clause-held
returns-in-Ok-clause-held c = λ held is some.
    put_held held c.args.draft.now c.put.new.self c.args.handle c.args.inode.now is some (returns-in-Ok-clause-puts c)

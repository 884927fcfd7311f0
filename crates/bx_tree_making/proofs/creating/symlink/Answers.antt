use Rattle.bx_model.specs.Making.{new_file, with_made}
use Rattle.bx_model.specs.declared.reply.Reply.TheVariants as reply
use Rattle.bx_model.specs.declared.status.TheConstants.{NFS_OK}
use Rattle.bx_tree_files.specs.declared.file.Body.TheVariants as body
use Rattle.bx_tree_making.proofs.creating.symlink.Goals as goal

pub returns-in-Err-clause-acts : goal.returns-in-Err-clause-acts
returns-in-Err-clause-acts c =
    c.in-Err.ensures.refused
    (λ directory made.
    (reply.Status NFS_OK, with_made c.args.tree.now directory.handle c.args.ask.now.name.now c.args.ask.now.time (new_file c.args.call.now c.args.ask.now.sattr.now c.args.ask.now.time 0o777 made (body.Path c.args.path.now))))

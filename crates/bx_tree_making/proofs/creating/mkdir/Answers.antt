use Rattle.std.proofs.Common.{[]}
use Rattle.bx_model.specs.Making.{new_file, with_made}
use Rattle.bx_model.specs.Reading.{handle_reply}
use Rattle.bx_tree_files.specs.declared.file.Body.TheVariants as body
use Rattle.bx_tree_making.proofs.creating.mkdir.Goals as goal

pub returns-in-Err-clause-acts : goal.returns-in-Err-clause-acts
returns-in-Err-clause-acts c =
    c.in-Err.ensures.refused
    (λ directory made. let file = new_file c.args.call.now c.args.ask.now.sattr.now c.args.ask.now.time 0o755 made (body.Names directory.handle 3 []) in
    (handle_reply c.args.tree.now file, with_made c.args.tree.now directory.handle c.args.ask.now.name.now c.args.ask.now.time file))

use Rattle.std.proofs.Common.{refl, sym, ◌∙◌}
use Rattle.bx_places.specs.Handles.{file_text}
use Rattle.bx_entries.specs.bx_making.specs.Made.{file_of}
use Rattle.bx_model.specs.declared.reply.Reply.TheVariants.{Handle}
use Rattle.bx_tree_files.specs.Attributes.{attributes_of}
use Rattle.bx_truth.specs.Stored.{HasFields}
use Rattle.bx_creating.proofs.telling.told_of.Goals as goal

pub returns : goal.returns
returns c = λ tree body same size less.
    let file = file_of c.args.inode.now c.args.handle body in
    let fields : HasFields c.args.inode.now (file_of c.args.inode.now c.args.handle body) = record { kind = refl; mode = refl; nlink = refl; uid = refl; gid = refl; atime = refl; mtime = refl; ctime = refl } in
    (λ i. Handle ((c.in_ok-bytes.ensures ∙ c.as_slice.ensures ∙ c.file_handle.ensures.text) i) (c.in_ok-words.ensures file refl fields size less i))
    ∙ (λ i. Handle (file_text (sym same i) c.args.handle) (attributes_of (sym same i) file))

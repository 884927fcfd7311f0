use Rattle.bx_tree_files.specs.Files.{file_at}
use Rattle.bx_tree_files.proofs.Edited.{can_free}
use Rattle.bx_tree_files.proofs.files.Files.change.Goals as goal

pub edit-requires : goal.edit-requires
edit-requires c = can_free c.args.edit.now c.requires (file_at c.args.self.now c.args.handle)

use Rattle.bx_tree_files.proofs.Kept.{IsFile-first}
use Rattle.bx_tree_files.proofs.files.Files.first.Goals as goal

pub returns-clause-is_file : goal.returns-clause-is_file
returns-clause-is_file c =
    IsFile-first c.self.inside.by_handle.entries (c.in_ok-file.field-0-0.now, c.in_ok-file.file.now) c.self.invariant.at c.in_ok-file.ensures.first

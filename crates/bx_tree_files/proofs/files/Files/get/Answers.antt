use Rattle.std.proofs.Common.{◌∙◌, ap}
use Rattle.bx_tree_files.proofs.Kept.{at_lookup, file_at-lookup, IsFile-lookup}
use Rattle.bx_tree_files.specs.Files.{file_at}
use Rattle.bx_tree_files.proofs.files.Files.get.Goals as goal

pub returns-clause-found : goal.returns-clause-found
returns-clause-found c =
    c.get.ensures.value ∙ file_at-lookup c.args.handle c.self.inside.by_handle.entries c.self.invariant.at ∙ ap (λ files. file_at files c.args.handle) c.self.view_is

pub returns-clause-is_file : goal.returns-clause-is_file
returns-clause-is_file c =
    rw c.get.ensures.value (IsFile-lookup c.args.handle c.self.inside.by_handle.entries c.self.invariant.at)

pub returns-clause-at : goal.returns-clause-at
returns-clause-at c =
    rw c.get.ensures.value (at_lookup c.args.handle c.self.inside.by_handle.entries c.self.invariant.at)

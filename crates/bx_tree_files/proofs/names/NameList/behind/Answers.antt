use Rattle.std.proofs.Common.{List, ◌∙◌, ap}
use Rattle.std.specs.Map.{values_of}
use Rattle.bx_tree_files.specs.declared.file.Name.{Name}
use Rattle.bx_tree_files.specs.Entries.{above}
use Rattle.bx_tree_files.proofs.Behind.{seen_above}
use Rattle.bx_tree_files.proofs.names.NameList.behind.Goals as goal

pub returns : goal.returns
returns c =
    ap values_of (c.range.ensures.between tt)
    ∙ seen_above c.args.number c.self.inside.by_number.entries c.self.invariant.apart
    ∙ ap (λ (names : List Name). above c.args.number names) c.self.view_is

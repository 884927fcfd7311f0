use Rattle.std.proofs.Common.{◌≡◌, List, Some, ◌∙◌, sym, ap}
use Rattle.std.specs.Map.{values_of}
use Rattle.bx_tree_files.specs.declared.file.Name.{Name}
use Rattle.bx_tree_files.specs.Entries.{entry_named}
use Rattle.bx_tree_files.proofs.Numbered.{at_number, num}
use Rattle.bx_tree_files.proofs.names.NameList.named.Goals as goal

pub returns : goal.returns
returns c =
    let has : Some c.in_ok-number.number ≡ num (entry_named (values_of c.self.inside.by_number.entries) c.args.name.now) =
    c.in_ok-number.ensures ∙ ap (λ (names : List Name). num (entry_named names c.args.name.now)) (sym c.self.view_is) in
    c.get.ensures.value
    ∙ at_number c.self.inside.by_number.entries c.args.name.now c.in_ok-number.number c.self.invariant.apart c.self.invariant.rise has
    ∙ ap (λ (names : List Name). entry_named names c.args.name.now) c.self.view_is

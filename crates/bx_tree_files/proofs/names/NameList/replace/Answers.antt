use Rattle.std.proofs.Common.{◌≡◌, List, None, sym, ap, ◌∙◌}
use Rattle.bx_tree_files.specs.declared.file.Name.{Name}
use Rattle.bx_tree_files.specs.Entries.{entry_named, with_name}
use Rattle.bx_tree_files.proofs.Edited.{on_ok_from}
use Rattle.bx_tree_files.proofs.Named.{not_found, without_none}
use Rattle.bx_tree_files.proofs.names.NameList.replace.Goals as goal

pub returns-in-None-clause-ok : goal.returns-in-None-clause-ok
returns-in-None-clause-ok c =
    let none : entry_named c.args.self.now c.args.name.now ≡ None = not_found c.args.self.now c.args.name.now (sym c.in-None.ensures) in
    on_ok_from c.push.result _ _
    (λ pushed. pushed ∙ ap (λ (names : List Name). with_name names c.args.number c.args.name.now c.args.handle) (sym (without_none c.args.self.now c.args.name.now none)))
    c.push.ensures.ok

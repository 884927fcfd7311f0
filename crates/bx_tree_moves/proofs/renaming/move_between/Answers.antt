use Rattle.std.proofs.Common.{◌≡◌, false, Ok, Some, ◌∙◌, sym, ap}
use Rattle.std.specs.Option.{option_copied}
use Rattle.bx_model.specs.declared.reply.Reply.TheVariants as reply
use Rattle.bx_model.specs.declared.tree.Tree.{Tree}
use Rattle.bx_tree_files.specs.Entries.{entry_named}
use Rattle.bx_tree_files.specs.Files.{file_at}
use Rattle.bx_tree_files.specs.Names.{names_of}
use Rattle.bx_model.specs.Renaming.{file_of_entry, is_same}
use Rattle.bx_model.specs.Steps.{Outcome}
use Rattle.bx_tree_moves.proofs.Known.{comes_to, is_move}
use Rattle.bx_tree_moves.proofs.Moved.{renamed_by}
use Rattle.bx_tree_moves.proofs.renaming.move_between.Goals as goal

abbrev ok_with : Tree → Outcome
ok_with next = Ok (reply.Status 0, next)

pub returns-clause-found : goal.returns-clause-found
returns-clause-found c =
    let found : entry_named (names_of c.args.source.now.body) c.args.name.now ≡ Some c.in-Some.entry.now = sym c.in-Some.ensures in
    let there : file_at c.args.tree.now.files c.in-Some.entry.now.handle ≡ Some c.in-Some-get.moved.now = sym c.in-Some-get.ensures.found in
    let replaced : file_of_entry c.args.tree.now (entry_named (names_of c.args.target.now.body) c.args.new_name.now) ≡ Ok (option_copied c.in-Ok.other) =
    rw (← c.entry_of-2.ensures) c.in-Ok.ensures.found in
    let differs : is_same c.in-Some-get.moved.now (option_copied c.in-Ok.other) ≡ false = sym c.is_same.ensures ∙ c.if-is_same.false in
    let is = is_move c.args.tree.now c.args.source.now c.args.target.now c.in-Some-get.moved.now c.in-Some.entry.now c.args.name.now c.args.new_name.now (option_copied c.in-Ok.other)
    c.requires.source c.requires.target found there replaced differs in
    comes_to c.args.tree.now c.args.source.now c.args.target.now c.in-Some-get.moved.now c.in-Some.entry.now c.args.name.now c.args.new_name.now (option_copied c.in-Ok.other)
    c.requires.source c.requires.target found there replaced differs c.args.now c.args.spare c.in_default-move_error.ensures.found
    ∙ ap (λ (next : Tree). ok_with next)
    (sym (renamed_by c.args.tree.now c.args.source.now c.args.target.now c.in-Some-get.moved.now c.args.name c.args.new_name c.args.now (option_copied c.in-Ok.other)
    c.changes_parent.result c.displaced_from.result is c.changes_parent.ensures c.displaced_from.ensures))

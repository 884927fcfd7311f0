use Rattle.std.proofs.Common.{◌≡◌, List, eqb, false, ◌∙◌, ap}
use Rattle.bx_tree_files.specs.declared.file.File.{File}
use Rattle.bx_model.specs.declared.tree.Tree.{Tree}
use Rattle.bx_model.specs.Edits.{without_new}
use Rattle.bx_tree_files.specs.Files.{file_at}
use Rattle.bx_tree_files.proofs.Edited.{on_err_from}
use Rattle.bx_tree_making.proofs.Made.{back_new, file_at-other, made_apart, unused_none}
use Rattle.bx_tree_making.proofs.making.make.Goals as goal

pub edit-entered-requires : goal.edit-entered-requires
edit-entered-requires c =
    let apart : eqb c.args.file.handle c.args.directory ≡ false =
    made_apart c.args.tree.now.files c.args.file.handle c.args.directory (unused_none c.args.tree.now c.args.file.handle c.requires.unused) c.requires.there in
    let same : file_at c.admit.new.tree.files c.args.directory ≡ file_at c.args.tree.now.files c.args.directory =
    ap (λ (tree : Tree). file_at tree.files c.args.directory) c.in_ok-admit.ensures.ok ∙ file_at-other c.args.tree.now.files c.args.file c.args.directory apart in
    rw same c.requires.can

pub returns-then-is_err-clause-err : goal.returns-then-is_err-clause-err
returns-then-is_err-clause-err c =
    on_err_from c.edit-entered.result _ _
    (λ same.
    c.dismiss.ensures
    ∙ ap (λ (files : List File). without_new (record c.admit.new.tree { files = files }) c.args.file.handle) same
    ∙ ap (λ (tree : Tree). without_new tree c.args.file.handle) c.in_ok-admit.ensures.ok
    ∙ back_new c.args.tree.now c.args.file c.requires.unused)
    c.edit-entered.ensures.err

use Rattle.std.proofs.Common.{◌≡◌, Some, None, ◌∙◌, sym, ap}
use Rattle.std.specs.Prelude.{List, option_map}
use Rattle.bx_tree_files.specs.declared.file.File.{File}
use Rattle.bx_tree_files.specs.Attributes.{attributes_of}
use Rattle.bx_tree_files.specs.FileEdits.{edited}
use Rattle.bx_tree_files.specs.Files.{file_at}
use Rattle.bx_tree_files.proofs.Changed.{file_at-changed}
use Rattle.bx_tree_files.proofs.Edited.{edited_handle}
use Rattle.bx_tree_changes.proofs.writing.edit_and_tell.Goals as goal

pub returns-clause-tells : goal.returns-clause-tells
returns-clause-tells c =
    let was : file_at c.args.tree.now.files c.args.handle ≡ Some c.in-Some.file.now = sym c.in-Some.ensures.found in
    let is : Some c.in-Some-get.file.now ≡ Some (edited c.args.now c.args.edit.now c.in-Some.file.now) =
    c.in-Some-get.ensures.found
    ∙ ap (λ (files : List File). file_at files c.args.handle) c.in_ok-edit.ensures.ok
    ∙ file_at-changed c.args.tree.now.files c.args.handle (edited c.args.now c.args.edit.now) (edited_handle c.args.now c.args.edit.now)
    ∙ ap (option_map (edited c.args.now c.args.edit.now)) was in
    let same : c.in-Some-get.file.now ≡ edited c.args.now c.args.edit.now c.in-Some.file.now = cc in
    rw was (c.put_words.ensures ∙ c.attribute_words.ensures ∙ ap (attributes_of c.args.tree.now.volume) same)

pub unreachable-requires-in_default-get : goal.unreachable-requires-in_default-get
unreachable-requires-in_default-get c =
    let was : file_at c.args.tree.now.files c.args.handle ≡ Some c.in-Some.file.now = sym c.in-Some.ensures.found in
    let is : None ≡ Some (edited c.args.now c.args.edit.now c.in-Some.file.now) =
    c.in_default-get.ensures.found
    ∙ ap (λ (files : List File). file_at files c.args.handle) c.in_ok-edit.ensures.ok
    ∙ file_at-changed c.args.tree.now.files c.args.handle (edited c.args.now c.args.edit.now) (edited_handle c.args.now c.args.edit.now)
    ∙ ap (option_map (edited c.args.now c.args.edit.now)) was in
    cc

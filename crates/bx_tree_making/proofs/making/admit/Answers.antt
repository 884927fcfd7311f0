use Rattle.std.proofs.Common.{◌≡◌, ℕ, List, ◌∙◌, ap}
use Rattle.bx_tree_files.specs.declared.file.File.{File}
use Rattle.bx_tree_files.specs.Given.{without_handle}
use Rattle.bx_tree_files.proofs.Edited.{on_err_from}
use Rattle.bx_tree_files.proofs.GivenOut.{without-with}
use Rattle.bx_tree_making.proofs.Made.{unused_given}
use Rattle.bx_tree_making.proofs.making.admit.Goals as goal

pub returns-then-is_err-clause-err : goal.returns-then-is_err-clause-err
returns-then-is_err-clause-err c =
    let given : c.remove.new.self ≡ c.args.tree.now.given =
    c.remove.ensures
    ∙ ap (λ (handles : List ℕ). without_handle handles c.args.file.handle) c.in_ok-insert.ensures.ok
    ∙ without-with c.args.file.handle c.args.tree.now.given (unused_given c.args.tree.now c.args.file.handle c.requires.unused) in
    on_err_from c.insert-admitted.result _ _
    (λ same.
    ap (λ (files : List File). record c.args.tree.now { files = files; given = c.remove.new.self }) same
    ∙ ap (λ (handles : List ℕ). record c.args.tree.now { given = handles }) given)
    c.insert-admitted.ensures.err

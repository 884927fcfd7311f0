use Rattle.std.proofs.Common.{ℕ, List, sym, subst}
use Rattle.bx_audit_owners.specs.Found.{AreOrdered}
use Rattle.bx_audit_owners.proofs.InOrder.{one_ordered}
use Rattle.bx_tree_files.specs.declared.file.File.{File}
use Rattle.bx_tree_files.specs.Files.{with_file}
use Rattle.bx_audit_owners.proofs.found.put_file.Goals as goal

pub returns-clause-ordered : goal.returns-clause-ordered
returns-clause-ordered c = λ ordered.
    let files = c.args.found.now.files in
    let given = c.args.found.now.given in
    subst (λ (l : List File). AreOrdered l c.insert.new.self) (sym c.in_ok-insert-2.ensures.ok)
    (subst (λ (h : List ℕ). AreOrdered (with_file files c.args.file) h) (sym c.in_ok-insert.ensures.ok)
    (one_ordered files c.args.file given c.requires.apart ordered))

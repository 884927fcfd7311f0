use Rattle.std.proofs.Common.{ℕ, ⊎_elim, inl, inr, Option, sym, subst}
use Rattle.std.specs.Prelude.{IfSome}
use Rattle.bx_audit_links.specs.Children.{HasChildren}
use Rattle.bx_audit_links.specs.Right.{IsWrong}
use Rattle.bx_audit_links.proofs.file_trees.wrong_file.Goals as goal

pub returns-clause-cause : goal.returns-clause-cause
returns-clause-cause c =
    let tree = c.args.tree.now in
    let wrong = subst (λ (found : Option ℕ). IfSome found (IsWrong tree)) c.in-Some.is c.in_ok-file.ensures.cause in
    ⊎_elim (λ child. inl (c.in-Some.file, wrong, child)) (λ itself. inr (subst (IsWrong tree) (sym itself.0) wrong, subst (HasChildren tree.files) (sym itself.0) itself.1)) c.blamed.ensures

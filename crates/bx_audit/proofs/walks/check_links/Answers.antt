use Rattle.std.proofs.Common.{ℕ, Option, inr, refl, subst}
use Rattle.std.specs.Prelude.{IfSome}
use Rattle.bx_audit_links.specs.Right.{IsToBlame}
use Rattle.bx_model.specs.FileTrees.{IsFileTree}
use Rattle.bx_audit.proofs.walks.check_links.Goals as goal

pub returns-in-Some-clause-err : goal.returns-in-Some-clause-err
returns-in-Some-clause-err g c = λ tells.
    let tree = c.args.tree.now in
    let blame = subst (λ (found : Option ℕ). IfSome found (IsToBlame tree)) c.in-Some.is c.in_ok-handle.ensures.cause in
    let none = subst (λ (found : Option ℕ). IfSome found (λ handle. IsFileTree tree → ⊥)) c.in-Some.is c.in_ok-handle.ensures.some in
    inr (record { handle = c.in-Some.handle; blame = blame; at = c.in_ok-at.at; found = c.in_ok-at.found; error_is = refl; told = c.in_ok-at.ensures.tells tells }, none)

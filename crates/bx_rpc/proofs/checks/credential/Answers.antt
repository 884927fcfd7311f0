use Rattle.std.proofs.Common.{◌≡◌, ℕ, inl, inr}
use Rattle.std.proofs.lemmas.Result.{err_from_is_err_and}
use Rattle.bx_rpc.specs.declared.caller.Caller.{Caller}
use Rattle.bx_rpc.specs.Callers.{Names}
use Rattle.bx_rpc.specs.Checks.{Verdict, FromBody, FromCredential}
use Rattle.bx_rpc.specs.Checks.Verdict.{refused}
use Rattle.bx_rpc.proofs.Steps.{stops_then}
use Rattle.bx_rpc.proofs.checks.credential.Goals as goal
use Rattle.bx_rpc.proofs.checks.credential.Goals.{else-flavor-ne-AUTH_NONE-via-then-flavor-ne-AUTH_NONE+else-flavor-ne-AUTH_SYS, else-flavor-ne-AUTH_NONE-via-else-flavor-ne-AUTH_NONE}

pub returns-in_err-body-clause-err : goal.returns-in_err-body-clause-err
returns-in_err-body-clause-err c =
    let p = err_from_is_err_and c.from_residual-in_err-body.result c.from_residual-in_err-body.ensures.1 in
    let P : Verdict → Type 0 = λ verdict. (program procedure flavor : ℕ) → FromBody program procedure flavor verdict c.word.new.reader in
    let Q : Verdict → Type 0 = λ verdict. (program procedure : ℕ) → FromCredential program procedure verdict c.args.reader.now in
    rw (p.1, p.2) (stops_then P Q c.in_err-body.field-0.0 c.in_err-body.ensures.err (λ verdict is program procedure.
    inr (_, _, c.in_ok-flavor.ensures.ok, inl ((elim c.else-flavor-ne-AUTH_NONE.branch [ else-flavor-ne-AUTH_NONE-via-then-flavor-ne-AUTH_NONE+else-flavor-ne-AUTH_SYS w ↦ inr w.if-flavor-ne-AUTH_SYS.false | else-flavor-ne-AUTH_NONE-via-else-flavor-ne-AUTH_NONE w ↦ inl w.if-flavor-ne-AUTH_NONE.false ]), is program procedure c.in_ok-flavor.flavor))))

pub returns-in_err-caller-clause-err : goal.returns-in_err-caller-clause-err
returns-in_err-caller-clause-err c =
    let p = err_from_is_err_and c.from_residual-in_err-caller.result c.from_residual-in_err-caller.ensures.1 in
    let P : Verdict → Type 0 = λ verdict. (verdict ≡ refused 6 0) × ((caller : Caller) → Names c.in_ok-flavor.flavor c.in_ok-body.body.now caller → ⊥) in
    let Q : Verdict → Type 0 = λ verdict. (program procedure : ℕ) → FromCredential program procedure verdict c.args.reader.now in
    rw (p.1, p.2) (stops_then P Q c.in_err-caller.field-0.0 c.in_err-caller.ensures.err (λ verdict is program procedure.
    inr (_, _, c.in_ok-flavor.ensures.ok, inl ((elim c.else-flavor-ne-AUTH_NONE.branch [ else-flavor-ne-AUTH_NONE-via-then-flavor-ne-AUTH_NONE+else-flavor-ne-AUTH_SYS w ↦ inr w.if-flavor-ne-AUTH_SYS.false | else-flavor-ne-AUTH_NONE-via-else-flavor-ne-AUTH_NONE w ↦ inl w.if-flavor-ne-AUTH_NONE.false ]), c.in_ok-body.ensures.ok program procedure c.in_ok-flavor.flavor verdict (inr (is.1, is.0))))))

pub returns-clause-ok : goal.returns-clause-ok
returns-clause-ok c = λ program procedure verdict later.
    inr (_, _, c.in_ok-flavor.ensures.ok, inl ((elim c.else-flavor-ne-AUTH_NONE.branch [ else-flavor-ne-AUTH_NONE-via-then-flavor-ne-AUTH_NONE+else-flavor-ne-AUTH_SYS w ↦ inr w.if-flavor-ne-AUTH_SYS.false | else-flavor-ne-AUTH_NONE-via-else-flavor-ne-AUTH_NONE w ↦ inl w.if-flavor-ne-AUTH_NONE.false ]), c.in_ok-body.ensures.ok program procedure c.in_ok-flavor.flavor verdict (inl (_, c.in_ok-caller.ensures.ok, later))))
